-- Laws of `smallest`.
use Prim.Native.Nat.{ℕ, zero, suc, ◌+◌, ◌≤◌, ◌<◌, min}
use mathlib.Core.Path.{◌≡◌, refl, ◌∙◌}
use mathlib.Core.Bool.{cond}
use mathlib.Core.Logic.{dite}
use native.Mathlib.Omega.{arith}
use native.Mathlib.Decide.{dec_lt}
use native.Mathlib.Numerals.{add-one}
use native.Mathlib.Nat.{min-le_left, min-le_right, min-eq_left, min-eq_right}
use lib.Dec.{eqb, eqb-suc-zero}
use Rattle.lists.specs.Smallest.{smallest}

module _ (f : ℕ → ℕ) where
  -- one number more is looked at
  pub smallest_more : (k : ℕ) → smallest (k + 1) f ≡ cond (eqb k 0) (f k) (min (f k) (smallest k f))
  unfolding smallest
  smallest_more k = rw add-one

  -- from the second on the smaller of two
  smaller_of : (n : ℕ) → smallest (suc (suc n)) f ≡ min (f (suc n)) (smallest (suc n) f)
  unfolding smallest
  smaller_of n = rw (eqb-suc-zero n)

  -- none of them is smaller
  pub smallest_under : (n k : ℕ) → k < n → smallest n f ≤ f k
  unfolding smallest
  smallest_under zero k l = absurd (omega arith)
  smallest_under (suc zero) zero l = omega arith
  smallest_under (suc zero) (suc k) l = absurd (omega arith)
  smallest_under (suc (suc n)) k l =
      dite (dec_lt k (suc n))
      (λ s. omega (arith, smaller_of n, min-le_right (f (suc n)) (smallest (suc n) f), smallest_under (suc n) k s))
      (λ s.
      let e : k ≡ suc n = omega arith in
      rw (e, smaller_of n) (min-le_left (f (suc n)) (smallest (suc n) f)))

  -- it is one of them
  pub smallest_one : (n : ℕ) → 1 ≤ n → (k : ℕ) × (k < n) × (smallest n f ≡ f k)
  unfolding smallest
  smallest_one zero l = absurd (omega arith)
  smallest_one (suc zero) l = (0, omega arith, refl)
  smallest_one (suc (suc n)) l =
      dite (dec_lt (smallest (suc n) f) (f (suc n)))
      (λ s.
      let (k, a, e) = smallest_one (suc n) (omega arith) in
      (k, omega arith, smaller_of n ∙ min-eq_right (omega arith) ∙ e))
      (λ s. (suc n, omega arith, smaller_of n ∙ min-eq_left (omega arith)))

-- numbers that agree below n have the same smallest
pub smallest_ext : (n : ℕ) (f g : ℕ → ℕ) → ((j : ℕ) → j < n → f j ≡ g j) → smallest n f ≡ smallest n g
unfolding smallest
smallest_ext zero f g h = refl
smallest_ext (suc n) f g h = rw (h n (omega arith), smallest_ext n f g (λ j l. h j (omega arith)))
