-- Laws of `largest`.
use Prim.Native.Nat.{ℕ, zero, suc, ◌+◌, ◌≤◌, ◌<◌, max, zero-le}
use mathlib.Core.Path.{◌≡◌, refl}
use mathlib.Core.Bool.{Bool, true, false, cond}
use mathlib.Core.Logic.{dite}
use native.Mathlib.Omega.{arith}
use native.Mathlib.Decide.{dec_lt}
use native.Mathlib.Numerals.{add-one}
use native.Mathlib.Nat.{le-max_left, le-max_right, max-le}
use Rattle.lists.specs.Largest.{largest}

module _ (p : ℕ → Bool) (f : ℕ → ℕ) where
  -- one number more is looked at
  pub largest_more : (k : ℕ) → largest (k + 1) p f ≡ cond (p k) (max (f k) (largest k p f)) (largest k p f)
  unfolding largest
  largest_more k = rw add-one

  -- none of those that pass is larger
  pub largest_covers : (n k : ℕ) → k < n → p k ≡ true → f k ≤ largest n p f
  unfolding largest
  largest_covers zero k l e = absurd (omega arith)
  largest_covers (suc n) k l e =
      dite (dec_lt k n)
      (λ s. omega (arith, largest_covers n k s e, at_least (p n)))
      (λ s.
      let q : k ≡ n = omega arith in
      let e' : p n ≡ true = rw q at e in
      rw (q, e') (le-max_left (f n) (largest n p f)))
    where
      at_least : (b : Bool) → largest n p f ≤ cond b (max (f n) (largest n p f)) (largest n p f)
      at_least true = le-max_right (f n) (largest n p f)
      at_least false = omega arith

  -- what bounds each of those that pass bounds the largest
  pub largest-le : (n b : ℕ) → ((k : ℕ) → k < n → p k ≡ true → f k ≤ b) → largest n p f ≤ b
  unfolding largest
  largest-le zero b h = zero-le
  largest-le (suc n) b h = go (p n) refl (largest-le n b (λ k l. h k (omega arith)))
    where
      go : (c : Bool) → p n ≡ c → largest n p f ≤ b → cond c (max (f n) (largest n p f)) (largest n p f) ≤ b
      go true e i = max-le (h n (omega arith) e) i
      go false e i = i

  -- none passes
  pub largest_none : (n : ℕ) → ((k : ℕ) → k < n → p k ≡ false) → largest n p f ≡ 0
  unfolding largest
  largest_none zero h = refl
  largest_none (suc n) h = rw (h n (omega arith)) (largest_none n (λ k l. h k (omega arith)))
