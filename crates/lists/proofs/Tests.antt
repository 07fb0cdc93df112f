-- What tests say: of two that are joined, of one that would both pass and fail, and of one as a number.
use Prim.Native.Nat.{ℕ, ◌≤◌}
use mathlib.Core.Path.{◌≡◌, refl, sym, ◌∙◌}
use mathlib.Core.Bool.{Bool, true, false, cond, ◌&&◌, ◌||◌, true≢false, false≢true}
use native.Mathlib.Omega.{arith}
use mir.Val.{bool_byte}

-- a case that cannot be: from two different values that would be equal, `cc` finds that 0 would be 1
pub clash : {X : Type 0} → ◌≡◌ {A = ℕ} 0 1 → X
clash z = absurd (omega arith)

-- a test does not both pass and fail
pub not_both : {t : Bool} → t ≡ true → t ≡ false → ⊥
not_both p q = true≢false (sym p ∙ q)

-- both of two tests pass
pub both : (a b : Bool) → (a && b) ≡ true → (a ≡ true) × (b ≡ true)
both true b h = (refl, h)
both false b h = absurd (false≢true h)

-- neither of two tests passes
pub neither : (a b : Bool) → (a || b) ≡ false → (a ≡ false) × (b ≡ false)
neither true b h = absurd (true≢false h)
neither false b h = (refl, h)

-- a flag as a number
pub flag : (b : Bool) → (bool_byte b ≡ cond b 1 0) × (bool_byte b ≤ 1)
flag true = (refl, omega arith)
flag false = (refl, omega arith)
