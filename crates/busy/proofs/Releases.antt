-- Releases at least a period apart: in any window of X ticks there are at most ceil(X / T) of them.
use Prim.Native.Nat.{ℕ, zero, suc, ◌+◌, ◌*◌, ◌≤◌, ◌<◌}
use mathlib.Core.Path.{◌≡◌, refl}
use mathlib.Core.Bool.{Bool, true, false, cond}
use native.Mathlib.Nat.{suc-mul, le_trans, mul-le-mul_right}
use native.Mathlib.Decide.{dec_le}
use native.Mathlib.Omega.{arith}
use borrow.Author.Tests.{ltb-true, ltb-false}
use lib.Dec.{ltb}
use Rattle.lists.specs.Total.{total}
use Rattle.lists.proofs.Total.{total_mono, total_scale}
use Rattle.bounds.specs.Demand.{ceil}
use Rattle.bounds.proofs.Asked.{le-ceil}
use Rattle.busy.proofs.Window.{window}

-- work is released only at ticks at least `period` apart
abbrev pub Spaced : (ℕ → ℕ) → ℕ → Type 0
Spaced new period = (a b : ℕ) → 1 ≤ new a → 1 ≤ new b → a < b → a + period ≤ b

-- c releases in n ticks: none, or the last of them is l ticks into the window, with a period behind each of the others
data Last (new : ℕ → ℕ) (period t0 n c : ℕ) : Type 0 where
  never : c ≡ 0 → Last new period t0 n c
  last : (l m : ℕ) → l < n → 1 ≤ new (t0 + l) → c ≡ suc m → m * period ≤ l → Last new period t0 n c

module _ (new : ℕ → ℕ) (period : ℕ) (spaced : Spaced new period) (t0 : ℕ) where
  -- 1 for a tick with a release
  abbrev hit : ℕ → ℕ
  hit j = cond (ltb 0 (new (t0 + j))) 1 0

  -- a tick more, with a release or without
  one_more : (n c : ℕ) (b : Bool) → ltb 0 (new (t0 + n)) ≡ b → Last new period t0 n c → Last new period t0 (suc n) (c + cond b 1 0)
  one_more n c true e (never z) = last n 0 (omega arith) (ltb-true 0 (new (t0 + n)) e) (omega arith) (omega arith)
  one_more n c true e (last l m hl hr hc hm) =
      let k = spaced (t0 + l) (t0 + n) hr (ltb-true 0 (new (t0 + n)) e) (omega arith) in
      last n (suc m) (omega arith) (ltb-true 0 (new (t0 + n)) e) (omega arith) (omega (arith, suc-mul m period))
  one_more n c false e (never z) = never (omega arith)
  one_more n c false e (last l m hl hr hc hm) = last l m (omega arith) hr (omega arith) hm

  -- so it is of the releases that are counted
  the_last : (n : ℕ) → Last new period t0 n (total n hit)
  unfolding total
  the_last zero = never refl
  the_last (suc n) = one_more n (total n hit) (ltb 0 (new (t0 + n))) refl (the_last n)

  -- so there are no more releases than periods, begun ones counted
  hits_le : (n : ℕ) → 1 ≤ period → total n hit ≤ ceil n period
  hits_le n some = go (total n hit) (the_last n)
    where
      go : (c : ℕ) → Last new period t0 n c → c ≤ ceil n period
      go c (never z) = omega arith
      go c (last l m hl hr hc hm) =
          elim (dec_le (suc m) (ceil n period)) [ yes h ↦ omega arith | no h ↦ absurd (omega (arith, le-ceil n period m some (omega arith))) ]

  -- and what is released in the window is at most that many lengths
  pub released-le : (len : ℕ) → ((t : ℕ) → new t ≤ len) → 1 ≤ period → (n : ℕ) → window new t0 n ≤ ceil n period * len
  released-le len small some n =
      let a = total_mono n (λ j. new (t0 + j)) (λ j. hit j * len) (λ j h. upper (t0 + j) (ltb 0 (new (t0 + j))) refl) in
      let b = total_scale n len hit in
      le_trans (omega arith) (mul-le-mul_right len (hits_le n some))
    where
      upper : (t : ℕ) (b : Bool) → ltb 0 (new t) ≡ b → new t ≤ cond b 1 0 * len
      upper t true e = omega (arith, small t)
      upper t false e = omega (arith, ltb-false 0 (new t) e)
