-- The best of the rows that pass a test.
use Rattle.std.specs.Prelude.{ℕ, zero, suc, Bool, true, cond, ◌&&◌}

-- row i against the best so far; rows are numbered from 1, and 0 is none
unfoldable pub beat : (ℕ → ℕ → Bool) → (ℕ → ℕ) → ℕ → ℕ → ℕ
beat ahead key i zero = suc i
beat ahead key i (suc x) = cond (ahead (key i) (key x)) (suc i) (suc x)

-- of the first n rows that pass the test, the one whose key comes first by the order; 0 if none passes
unfoldable pub best : (ℕ → ℕ → Bool) → (ℕ → Bool) → (ℕ → ℕ) → ℕ → ℕ
best ahead test key zero = 0
best ahead test key (suc i) = cond (test i) (beat ahead key i (best ahead test key i)) (best ahead test key i)

-- each of the first n rows passes
unfoldable pub every : ℕ → (ℕ → Bool) → Bool
every zero test = true
every (suc i) test = test i && every i test
