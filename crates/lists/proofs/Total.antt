-- Laws of sums.
use Prim.Native.Nat.{ℕ, zero, suc, ◌+◌, ◌*◌, ◌≤◌, ◌<◌}
use mathlib.Core.Path.{◌≡◌, refl, sym, ◌∙◌, ap}
use mathlib.Core.Bool.{Bool, cond}
use mathlib.Core.Logic.{dite}
use native.Mathlib.Omega.{arith}
use native.Mathlib.Decide.{dec_le, dec_lt}
use native.Mathlib.Nat.{add-mul}
use Rattle.lists.specs.Total.{total}
use Rattle.lists.specs.Count.{count}

-- rules that agree below n have the same sum
pub total_ext : (n : ℕ) (f g : ℕ → ℕ) → ((i : ℕ) → i < n → f i ≡ g i) → total n f ≡ total n g
unfolding total
total_ext zero f g h = refl
total_ext (suc n) f g h = omega (arith, total_ext n f g (λ i l. h i (omega arith)), h n (omega arith))

-- a sum of 0s
pub total-zero : (n : ℕ) (f : ℕ → ℕ) → ((i : ℕ) → i < n → f i ≡ 0) → total n f ≡ 0
unfolding total
total-zero zero f h = refl
total-zero (suc n) f h = omega (arith, total-zero n f (λ i l. h i (omega arith)), h n (omega arith))

-- a sum of sums, number by number
pub total-add : (n : ℕ) (f g : ℕ → ℕ) → total n (λ i. f i + g i) ≡ total n f + total n g
unfolding total
total-add zero f g = refl
total-add (suc n) f g = omega (arith, total-add n f g)

-- a sum in which one number alone counts
pub total_one : (n a : ℕ) (f : ℕ → ℕ) → a < n → ((i : ℕ) → i < n → (i ≡ a → ⊥) → f i ≡ 0) → total n f ≡ f a
unfolding total
total_one zero a f l h = absurd (omega arith)
total_one (suc n) a f l h =
    dite (dec_lt a n)
    (λ s. omega (arith, total_one n a f s (λ i k. h i (omega arith)), h n (omega arith) (λ e. omega arith)))
    (λ s.
    let e : a ≡ n = omega arith in
    rw e (omega (arith, total-zero n f (λ i k. h i (omega arith) (λ q. omega arith)))))

-- a sum of sums, the other way round
pub total_swap : (m n : ℕ) (f : ℕ → ℕ → ℕ) → total m (λ i. total n (f i)) ≡ total n (λ j. total m (λ i. f i j))
unfolding total
total_swap zero n f = sym (total-zero n (λ j. 0) (λ j l. refl))
total_swap (suc m) n f = ap (λ (k : ℕ). k + total n (f m)) (total_swap m n f) ∙ sym (total-add n (λ j. total m (λ i. f i j)) (f m))

-- no number is larger, so the sum is not
pub total_mono : (n : ℕ) (f g : ℕ → ℕ) → ((i : ℕ) → i < n → f i ≤ g i) → total n f ≤ total n g
unfolding total
total_mono zero f g h = omega arith
total_mono (suc n) f g h = omega (arith, total_mono n f g (λ i l. h i (omega arith)), h n (omega arith))

-- a factor of each number is a factor of the sum
pub total_scale : (n c : ℕ) (f : ℕ → ℕ) → total n (λ i. f i * c) ≡ total n f * c
unfolding total
total_scale zero c f = omega arith
total_scale (suc n) c f = rw (add-mul (total n f) (f n) c) (omega (arith, total_scale n c f))

-- a sum of 1s is how many numbers pass
pub total_count : (n : ℕ) (p : ℕ → Bool) → total n (λ i. cond (p i) 1 0) ≡ count n p
unfolding total count
total_count zero p = refl
total_count (suc n) p = ap (λ (k : ℕ). k + cond (p n) 1 0) (total_count n p)

-- at least 1 at each
pub total_ones : (n : ℕ) (f : ℕ → ℕ) → ((i : ℕ) → i < n → 1 ≤ f i) → n ≤ total n f
unfolding total
total_ones zero f h = omega arith
total_ones (suc n) f h = omega (arith, total_ones n f (λ i l. h i (omega arith)), h n (omega arith))

-- one of the numbers is at most the sum
pub total_part : (n a : ℕ) (f : ℕ → ℕ) → a < n → f a ≤ total n f
unfolding total
total_part zero a f l = absurd (omega arith)
total_part (suc n) a f l =
    dite (dec_lt a n)
    (λ s. omega (arith, total_part n a f s))
    (λ s. let e : a ≡ n = omega arith in omega (arith, ap f e))

-- a sum that is not 0 has a number that is not
pub total_some : (n : ℕ) (f : ℕ → ℕ) → 1 ≤ total n f → (a : ℕ) × (a < n) × (1 ≤ f a)
unfolding total
total_some zero f h = absurd (omega arith)
total_some (suc n) f h =
    dite (dec_le 1 (f n))
    (λ s. (n, omega arith, s))
    (λ s. let (a, l, k) = total_some n f (omega arith) in (a, omega arith, k))

-- sums of two pairs of numbers that balance each other
pub total_balance : (n : ℕ) (a b c d : ℕ → ℕ) → ((i : ℕ) → i < n → a i + b i ≡ c i + d i) → total n a + total n b ≡ total n c + total n d
unfolding total
total_balance zero a b c d h = refl
total_balance (suc n) a b c d h = omega (arith, total_balance n a b c d (λ i l. h i (omega arith)), h n (omega arith))

-- a sum of 0s but for one number
pub total_spike : (n a c : ℕ) (f : ℕ → ℕ) → ((i : ℕ) → i < n → (i ≡ a → ⊥) → f i ≡ 0) → (a < n → f a ≤ c) → total n f ≤ c
total_spike n a c f h k =
    dite (dec_lt a n)
    (λ s. omega (arith, total_one n a f s h, k s))
    (λ s. omega (arith, total-zero n f (λ i l. h i l (λ e. omega arith))))
