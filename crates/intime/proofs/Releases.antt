-- The releases of one row: two of them are at least the first one's bound apart, and those of a part a period.
use Prim.Native.Nat.{ℕ, suc, ◌+◌, ◌*◌, ◌≤◌, ◌<◌}
use mathlib.Core.Path.{◌≡◌, sym, ap}
use mathlib.Core.List.{List}
use native.Mathlib.Decide.{dec_le}
use native.Mathlib.Omega.{arith}
use lib.ListN.{get_or}
use Rattle.bounds.specs.Demand.{ceil}
use Rattle.busy.proofs.Window.{window}
use Rattle.busy.proofs.Releases.{Spaced, released-le}
use Rattle.std.specs.Prelude.{Option, Some}
use Rattle.chain.specs.Release.{off}
use Rattle.chain.proofs.Offsets.{off-suc, off-le}
use Rattle.chain.proofs.Row.{RowFit, new, New, nothing, something, new?, off_top}

module _ (bounds : List ℕ) (i : ℕ) (ar : ℕ → Option (List ℕ)) where
  -- a part of positive length that is released at r
  pub record Release (r j : ℕ) : Type 0 where
    pub when : ℕ
    pub lens : List ℕ
    pub came : ar when ≡ Some lens
    pub inside : j < 3
    pub some-length : 1 ≤ get_or lens j 0
    pub is : when + off bounds i j ≡ r

  -- two releases are one, or the earlier one's bound lies between them
  pub data Order (r j r' j' : ℕ) : Type 0 where
    same : r ≡ r' → j ≡ j' → Order r j r' j'
    before : r + get_or bounds (3 * i + j) 0 ≤ r' → Order r j r' j'
    after : r' + get_or bounds (3 * i + j') 0 ≤ r → Order r j r' j'

  -- what comes in a tick is a release of that tick
  pub is_release : (j t : ℕ) → j < 3 → 1 ≤ new bounds i ar j t → Release t j
  is_release j t hj p = go (new? bounds i ar j t)
    where
      go : New bounds i ar j t → Release t j
      go (nothing e) = absurd (omega arith)
      go (something a ls e q w) = record { when = a; lens = ls; came = e; inside = hj; some-length = omega arith; is = q }

  -- of one job, an earlier part's bound ends before a later part's release: the offsets are sums of bounds
  in_job : (r j r' j' : ℕ) (x : Release r j) (y : Release r' j') → x.when ≡ y.when → j < j' → r + get_or bounds (3 * i + j) 0 ≤ r'
  in_job r j r' j' x y e lt = omega (arith, off-suc bounds i j, off-le bounds i (suc j) j' lt)

  module _ (period : ℕ) (len : ℕ → ℕ) (fit : RowFit bounds i ar period len) where
    -- of two jobs, all bounds of the earlier one end before the later one's arrival
    of_jobs : (r j r' j' : ℕ) (x : Release r j) (y : Release r' j') → x.when < y.when → r + get_or bounds (3 * i + j) 0 ≤ r'
    of_jobs r j r' j' x y lt =
        let spaced = fit.apart x.when y.when x.lens y.lens x.came y.came lt in
        omega (arith, off-suc bounds i j, off_top bounds i ar period len fit (suc j) x.inside)

    -- so that any two are in order
    pub order : (r j r' j' : ℕ) → Release r j → Release r' j' → Order r j r' j'
    order r j r' j' x y = jobs (dec_le (suc x.when) y.when) (dec_le (suc y.when) x.when)
      where
        parts : x.when ≡ y.when → Dec (j < j') → Dec (j' < j) → Order r j r' j'
        parts e (yes a) b = before (in_job r j r' j' x y e a)
        parts e (no a) (yes b) = after (in_job r' j' r j y x (sym e) b)
        parts e (no a) (no b) = let jj : j ≡ j' = omega arith in same (omega (arith, x.is, y.is, ap (off bounds i) jj)) jj

        jobs : Dec (x.when < y.when) → Dec (y.when < x.when) → Order r j r' j'
        jobs (yes a) b = before (of_jobs r j r' j' x y a)
        jobs (no a) (yes b) = after (of_jobs r' j' r j y x b)
        jobs (no a) (no b) = parts (omega arith) (dec_le (suc j) j') (dec_le (suc j') j)

    -- what is released has a bound
    pub long : (r j : ℕ) → Release r j → 1 ≤ get_or bounds (3 * i + j) 0
    long r j x = fit.timed j x.inside (omega (arith, fit.lengths x.when x.lens x.came j x.inside))

    -- a release is at most its part's length
    pub new_le : (j t : ℕ) → j < 3 → new bounds i ar j t ≤ len j
    new_le j t hj = go (new? bounds i ar j t)
      where
        go : New bounds i ar j t → new bounds i ar j t ≤ len j
        go (nothing e) = omega arith
        go (something a ls e q w) = omega (arith, fit.lengths a ls e j hj)

    -- releases of one part in a window
    pub new_ceil : (j t0 n : ℕ) → j < 3 → 1 ≤ period → window (new bounds i ar j) t0 n ≤ ceil n period * len j
    new_ceil j t0 n hj hp = released-le (new bounds i ar j) period spaced t0 (len j) (λ t. new_le j t hj) hp n
      where
        spaced : Spaced (new bounds i ar j) period
        spaced a b p q lt =
            let x = is_release j a hj p in
            let y = is_release j b hj q in
            omega (arith, fit.apart x.when y.when x.lens y.lens x.came y.came (omega arith))
