-- How long after its arrival a job's parts come, one part after the other.
use Prim.Native.Nat.{ℕ, zero, suc, ◌+◌, ◌*◌, ◌≤◌}
use mathlib.Core.Path.{◌≡◌, refl, ap}
use mathlib.Core.List.{List}
use native.Mathlib.Decide.{dec_le}
use native.Mathlib.Omega.{arith}
use native.Mathlib.Numerals.{add-one}
use lib.ListN.{get_or, length, take, drop}
use Rattle.std.specs.List.{sum}
use Rattle.std.proofs.lemmas.List.{get_or-drop, length-drop}
use Rattle.std.proofs.lemmas.List.Sums.{sum_by_more}
use Rattle.chain.specs.Release.{off}
use Rattle.chain.specs.Good.{GoodBounds}

module _ (bounds : List ℕ) (i : ℕ) where
  -- each part comes a bound later than the one before it
  pub off-suc : (j : ℕ) → off bounds i (suc j) ≡ off bounds i j + get_or bounds (3 * i + j) 0
  unfolding off
  off-suc j = refl

  pub off_more : (j : ℕ) → off bounds i (j + 1) ≡ off bounds i j + get_or bounds (3 * i + j) 0
  off_more j = rw add-one (off-suc j)

  -- the offset is the sum of the bounds before the part
  pub off_sum : (j : ℕ) → 3 * i + j ≤ length bounds → off bounds i j ≡ sum (take j (drop (3 * i) bounds))
  unfolding off
  off_sum zero h = refl
  off_sum (suc j) h =
      let l = length-drop (3 * i) bounds in
      let m = rw (add-one, get_or-drop (3 * i) bounds j 0) at (sum_by_more (λ x. x) (drop (3 * i) bounds) j 0 (omega (arith, l))) in
      omega (arith, m, off_sum j (omega arith))

  -- no part comes before one that is ahead of it
  pub off-le : (j e : ℕ) → j ≤ e → off bounds i j ≤ off bounds i e
  unfolding off
  off-le j zero h = let q : j ≡ 0 = omega arith in omega (arith, ap (off bounds i) q)
  off-le j (suc e) h =
      elim (dec_le j e) [
        | yes k ↦ omega (arith, off-le j e k)
        | no k ↦ let q : j ≡ suc e = omega arith in omega (arith, ap (off bounds i) q)
      ]

  -- each part comes at most the longest period after the one before
  pub off_small : GoodBounds bounds → (j : ℕ) → off bounds i j ≤ j * 1000000
  unfolding off
  off_small g zero = omega arith
  off_small g (suc j) = omega (arith, off_small g j, g.small (3 * i + j))
