-- Laws of `first`: it is the one number with its property.
use Prim.Native.Nat.{ℕ, zero, suc, ◌≤◌, ◌<◌, zero-le}
use mathlib.Core.Path.{◌≡◌, refl}
use mathlib.Core.Bool.{Bool, true, false, cond}
use native.Mathlib.Omega.{arith}
use borrow.Author.Tests.{lt-ltb, le-ltb, ltb-false}
use lib.Dec.{ltb}
use Rattle.lists.specs.First.{first}

-- below it none passes
pub first_no : (n : ℕ) (p : ℕ → Bool) (k : ℕ) → k < first n p → p k ≡ false
unfolding first
first_no zero p k h = absurd (omega arith)
first_no (suc n) p k h = go (p 0) refl k h (first_no n (λ j. p (suc j)))
  where
    go : (b : Bool) → p 0 ≡ b → (k : ℕ) → k < cond b 0 (suc (first n (λ j. p (suc j)))) → ((j : ℕ) → j < first n (λ j. p (suc j)) → p (suc j) ≡ false) → p k ≡ false
    go true e k h ih = absurd (omega arith)
    go false e zero h ih = e
    go false e (suc k) h ih = ih k (omega arith)

-- it passes, if it is below n
pub first_yes : (n : ℕ) (p : ℕ → Bool) → first n p < n → p (first n p) ≡ true
unfolding first
first_yes zero p h = absurd (omega arith)
first_yes (suc n) p h = go (p 0) refl h (first_yes n (λ j. p (suc j)))
  where
    go : (b : Bool) → p 0 ≡ b → cond b 0 (suc (first n (λ j. p (suc j)))) < suc n → (first n (λ j. p (suc j)) < n → p (suc (first n (λ j. p (suc j)))) ≡ true) → p (cond b 0 (suc (first n (λ j. p (suc j))))) ≡ true
    go true e h ih = e
    go false e h ih = ih (omega arith)

-- it is at most n
pub first-le : (n : ℕ) (p : ℕ → Bool) → first n p ≤ n
unfolding first
first-le zero p = zero-le
first-le (suc n) p = go (p 0) (first-le n (λ j. p (suc j)))
  where
    go : (b : Bool) → first n (λ j. p (suc j)) ≤ n → cond b 0 (suc (first n (λ j. p (suc j)))) ≤ suc n
    go true ih = zero-le
    go false ih = omega arith

-- a number that passes, with none below it that does, is the first
pub first_is : (n : ℕ) (p : ℕ → Bool) (k : ℕ) → k < n → ((j : ℕ) → j < k → p j ≡ false) → p k ≡ true → first n p ≡ k
unfolding first
first_is zero p k h fails passes = absurd (omega arith)
first_is (suc n) p zero h fails passes = rw passes
first_is (suc n) p (suc k) h fails passes = rw (fails 0 (omega arith), first_is n (λ j. p (suc j)) k (omega arith) (λ j l. fails (suc j) (omega arith)) passes)

-- none passes
pub first_none : (n : ℕ) (p : ℕ → Bool) → ((j : ℕ) → j < n → p j ≡ false) → first n p ≡ n
unfolding first
first_none zero p fails = refl
first_none (suc n) p fails = rw (fails 0 (omega arith), first_none n (λ j. p (suc j)) (λ j l. fails (suc j) (omega arith)))

-- tests that agree below n have the same first
pub first_ext : (n : ℕ) (p q : ℕ → Bool) → ((j : ℕ) → j < n → p j ≡ q j) → first n p ≡ first n q
unfolding first
first_ext zero p q h = refl
first_ext (suc n) p q h = rw (h 0 (omega arith), first_ext n (λ k. p (suc k)) (λ k. q (suc k)) (λ j l. h (suc j) (omega arith)))

-- the first number with something against it, where 0 is nothing
module _ (n : ℕ) (f : ℕ → ℕ) where
  -- a bad one behind good ones is it
  pub first_bad_lem : (k : ℕ) → k < n → ((j : ℕ) → j < k → f j ≡ 0) → 0 < f k → first n (λ j. ltb 0 (f j)) ≡ k
  first_bad_lem k l good bad = first_is n (λ j. ltb 0 (f j)) k l (λ j h. le-ltb 0 (f j) (omega (arith, good j h))) (lt-ltb 0 (f k) bad)

  -- there is none where all are good
  pub none_bad : ((j : ℕ) → j < n → f j ≡ 0) → first n (λ j. ltb 0 (f j)) ≡ n
  none_bad good = first_none n (λ j. ltb 0 (f j)) (λ j h. le-ltb 0 (f j) (omega (arith, good j h)))

  -- those before it are good
  pub good_before : (k : ℕ) → k < first n (λ j. ltb 0 (f j)) → f k ≡ 0
  good_before k h = omega (arith, ltb-false 0 (f k) (first_no n (λ j. ltb 0 (f j)) k h))
