-- The smallest number.
use Rattle.std.specs.Prelude.{ℕ, zero, suc, min, cond, eqb}

-- the smallest of f 0, f 1, .. up to f (n - 1); 0 if there are none
unfoldable pub smallest : ℕ → (ℕ → ℕ) → ℕ
smallest zero f = 0
smallest (suc k) f = cond (eqb k 0) (f k) (min (f k) (smallest k f))
