-- Sums over a window of ticks, and ticks at which a function is 0.
use Prim.Native.Nat.{ℕ, zero, suc, ◌+◌, ◌≤◌, ◌<◌}
use mathlib.Core.Path.{◌≡◌}
use native.Mathlib.Decide.{dec_le, ℕ_discrete}
use native.Mathlib.Omega.{arith}
use Rattle.lists.specs.Total.{total}

-- the sum of f over the n ticks from t0 on
abbrev pub window : (ℕ → ℕ) → ℕ → ℕ → ℕ
window f t0 n = total n (λ j. f (t0 + j))

-- strong induction
below : (C : ℕ → Type 0) → ((n : ℕ) → ((m : ℕ) → m < n → C m) → C n) → (n m : ℕ) → m < n → C m
below C f zero m h = absurd (omega arith)
below C f (suc n) m h = f m (λ x hx. below C f n x (omega arith))

-- what holds at a number if it holds below it holds at each
pub by_strong : (C : ℕ → Type 0) → ((n : ℕ) → ((m : ℕ) → m < n → C m) → C n) → (n : ℕ) → C n
by_strong C f n = below C f (suc n) n (omega arith)

-- the last tick up to n at which f is 0, where f is 0 at 0
pub record LastZero (f : ℕ → ℕ) (n : ℕ) : Type 0 where
  pub at : ℕ
  pub low : at ≤ n
  pub here : f at ≡ 0
  pub later : (t : ℕ) → at < t → t ≤ n → 1 ≤ f t

-- there is one
pub last-zero : (f : ℕ → ℕ) → f 0 ≡ 0 → (n : ℕ) → LastZero f n
last-zero f z zero = record { at = 0; low = omega arith; here = z; later = λ t a b. absurd (omega arith) }
last-zero f z (suc n) = go (ℕ_discrete (f (suc n)) 0) (last-zero f z n)
  where
    up : (f (suc n) ≡ 0 → ⊥) → (t : ℕ) → t ≤ suc n → Dec (t ≤ n) → (t ≤ n → 1 ≤ f t) → 1 ≤ f t
    up d t b (yes h) k = k h
    up d t b (no h) k = let e : t ≡ suc n = omega arith in rw e (omega arith)

    go : Dec (f (suc n) ≡ 0) → LastZero f n → LastZero f (suc n)
    go (yes e) l = record { at = suc n; low = omega arith; here = e; later = λ t a b. absurd (omega arith) }
    go (no d) l = record { at = l.at; low = omega (arith, l.low); here = l.here; later = λ t a b. up d t b (dec_le t n) (λ h. l.later t a h) }

-- a tick in (t, t + n] at which f is 0, or none
pub data Quiet (f : ℕ → ℕ) (t n : ℕ) : Type 0 where
  at : (u : ℕ) → t < u → u ≤ t + n → f u ≡ 0 → Quiet f t n
  never : ((u : ℕ) → t < u → u ≤ t + n → 1 ≤ f u) → Quiet f t n

-- and one of the two is so
pub quiet? : (f : ℕ → ℕ) (t n : ℕ) → Quiet f t n
quiet? f t zero = never (λ u a b. absurd (omega arith))
quiet? f t (suc n) = go (quiet? f t n) (ℕ_discrete (f (t + suc n)) 0)
  where
    up : (f (t + suc n) ≡ 0 → ⊥) → (u : ℕ) → u ≤ t + suc n → Dec (u ≤ t + n) → (u ≤ t + n → 1 ≤ f u) → 1 ≤ f u
    up d u b (yes h) k = k h
    up d u b (no h) k = let e : u ≡ t + suc n = omega arith in rw e (omega arith)

    go : Quiet f t n → Dec (f (t + suc n) ≡ 0) → Quiet f t (suc n)
    go (at u a b z) d = at u a (omega arith) z
    go (never h) (yes z) = at (t + suc n) (omega arith) (omega arith) z
    go (never h) (no d) = never (λ u a b. up d u b (dec_le u (t + n)) (λ c. h u a c))
