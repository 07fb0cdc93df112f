-- The largest number under a test.
use Rattle.std.specs.Prelude.{ℕ, zero, suc, max, Bool, cond}

-- the largest f k among the k below n that pass; 0 if none does
unfoldable pub largest : ℕ → (ℕ → Bool) → (ℕ → ℕ) → ℕ
largest zero p f = 0
largest (suc k) p f = cond (p k) (max (f k) (largest k p f)) (largest k p f)
