-- The first number that passes a test.
use Rattle.std.specs.Prelude.{ℕ, zero, suc, Bool, cond}

-- the first number below n that passes, or n if none does
unfoldable pub first : ℕ → (ℕ → Bool) → ℕ
first zero p = 0
first (suc n) p = cond (p 0) 0 (suc (first n (λ k. p (suc k))))
