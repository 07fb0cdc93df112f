-- Sums over the parts of the first tasks, and over a window of ticks.
use Prim.Native.Nat.{ℕ, suc, ◌+◌, ◌≤◌, ◌<◌}
use mathlib.Core.Path.{◌≡◌, refl, ◌∙◌}
use mathlib.Core.Logic.{dite}
use native.Mathlib.Decide.{dec_le}
use native.Mathlib.Omega.{arith}
use native.Mathlib.Nat.{le_trans}
use Rattle.lists.specs.Total.{total}
use Rattle.lists.proofs.Total.{total_ext, total_mono, total_part, total_some, total_balance, total_swap}
use Rattle.busy.proofs.Window.{window}
use Rattle.intime.proofs.System.{sum}

-- no part is larger, so the sum is not
pub sum_mono : (k : ℕ) (f g : ℕ → ℕ → ℕ) → ((r j : ℕ) → r < k → j < 3 → f r j ≤ g r j) → sum k f ≤ sum k g
sum_mono k f g h = total_mono k (λ r. total 3 (f r)) (λ r. total 3 (g r)) (λ r l. total_mono 3 (f r) (g r) (λ j. h r j l))

-- a part is at most the sum
pub sum-part : (k r j : ℕ) (f : ℕ → ℕ → ℕ) → r < k → j < 3 → f r j ≤ sum k f
sum-part k r j f l m = le_trans (total_part 3 j (f r) m) (total_part k r (λ x. total 3 (f x)) l)

-- a sum that is not 0 has a part that is not
sum-some : (k : ℕ) (f : ℕ → ℕ → ℕ) → 1 ≤ sum k f → (r : ℕ) × (j : ℕ) × (r < k) × (j < 3) × (1 ≤ f r j)
sum-some k f h =
    let (r, l, a) = total_some k (λ x. total 3 (f x)) h in
    let (j, m, b) = total_some 3 (f r) a in
    (r, j, l, m, b)

-- two sums that are not both 0 have a part at which they are not
pub sum-either : (k : ℕ) (f g : ℕ → ℕ → ℕ) → 1 ≤ sum k f + sum k g → (r : ℕ) × (j : ℕ) × (r < k) × (j < 3) × (1 ≤ f r j + g r j)
sum-either k f g h =
    dite (dec_le 1 (sum k f))
    (λ y. let (r, j, a, b, c) = sum-some k f y in (r, j, a, b, omega arith))
    (λ z. let (r, j, a, b, c) = sum-some k g (omega arith) in (r, j, a, b, omega arith))

-- the last task apart
pub sum-last : (k : ℕ) (f : ℕ → ℕ → ℕ) → sum (suc k) f ≡ sum k f + total 3 (f k)
unfolding total
sum-last k f = refl

-- sums of parts that balance each other
pub sum_balance : (k : ℕ) (a b c d : ℕ → ℕ → ℕ) → ((r j : ℕ) → r < k → j < 3 → a r j + b r j ≡ c r j + d r j) → sum k a + sum k b ≡ sum k c + sum k d
sum_balance k a b c d h =
    total_balance k (λ r. total 3 (a r)) (λ r. total 3 (b r)) (λ r. total 3 (c r)) (λ r. total 3 (d r))
    (λ r l. total_balance 3 (a r) (b r) (c r) (d r) (λ j. h r j l))

-- the order of the two sums is free
pub window_sum : (k : ℕ) (f : ℕ → ℕ → ℕ → ℕ) (t0 n : ℕ) → window (λ t. sum k (λ r j. f r j t)) t0 n ≡ sum k (λ r j. window (f r j) t0 n)
window_sum k f t0 n = total_swap n k (λ t r. total 3 (λ j. f r j (t0 + t))) ∙ total_ext k _ _ (λ r l. total_swap n 3 (λ t j. f r j (t0 + t)))
