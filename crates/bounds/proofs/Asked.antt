-- Laws of the demand, once over the list of terms: it grows with the time, and by one term at a time.
use Prim.Native.Nat.{ℕ, zero, suc, ◌+◌, ◌-◌, ◌*◌, ◌/◌, ◌≤◌, ◌<◌, zero-le}
use mathlib.Core.Path.{◌≡◌, refl, ◌∙◌, ap₂}
use mathlib.Core.Bool.{Bool, true, false, cond}
use mathlib.Core.List.{List, [], ◌∷◌, ◌++◌}
use native.Mathlib.Omega.{arith}
use native.Mathlib.Nat.{div-zero, div-mul-le_self, le-div_iff_mul-le, div-lt_iff_lt-mul, mul-le-mul_left, mul-le-mul_right, le_trans, zero-lt-suc, add-le-add, suc-mul}
use lib.ListN.{length, get_or, take}
use lib.Dec.{eqb}
use Rattle.std.proofs.lemmas.List.{take_more}
use Rattle.lists.specs.Total.{total}
use Rattle.bounds.specs.Demand.{Term, ceil, demand, GoodTerms, no_term}
use Rattle.bounds.specs.Terms.{term_at, terms_on}

-- a larger number has no smaller quotient
div_mono : (p : ℕ) {a b : ℕ} → a ≤ b → a / p ≤ b / p
div_mono zero {a} {b} h = rw (div-zero a, div-zero b) zero-le
div_mono (suc p) {a} {b} h = (le-div_iff_mul-le (zero-lt-suc p)).1 (le_trans (div-mul-le_self a (suc p)) h)

-- as many periods as the quotient counts cover the time
pub le-ceil : (t period c : ℕ) → 1 ≤ period → ceil t period ≤ c → t ≤ c * period
unfolding ceil
le-ceil t period c some h =
    let k : t + (period - 1) < suc c * period = (div-lt_iff_lt-mul some).0 (omega arith) in
    omega (arith, suc-mul c period)

-- a term whose length is at most its period asks for less than t and one period more
pub share_le : (t period len : ℕ) → len ≤ period → ceil t period * len ≤ t + (period - 1)
unfolding ceil
share_le t period len h =
    le_trans (mul-le-mul_left ((t + (period - 1)) / period) h) (div-mul-le_self (t + (period - 1)) period)

-- within one period a term is asked for once
pub once : (t period len : ℕ) → 1 ≤ t → t ≤ period → ceil t period * len ≡ len
unfolding ceil
once t period len a b =
    let some : 0 < period = omega arith in
    let e : (t + (period - 1)) / period ≡ 1 =
    let up : 1 ≤ (t + (period - 1)) / period = (le-div_iff_mul-le some).1 (omega arith) in
    let down : (t + (period - 1)) / period < 2 = (div-lt_iff_lt-mul some).1 (omega arith) in
    omega arith in
    rw e (omega arith)

-- within more time no less is asked for
pub mono : (xs : List Term) {t u : ℕ} → t ≤ u → demand xs t ≤ demand xs u
unfolding demand ceil
mono [] h = zero-le
mono (x ∷ xs) {t} {u} h =
    let q : t + (x.period - 1) ≤ u + (x.period - 1) = omega arith in
    add-le-add (mul-le-mul_right x.len (div_mono x.period q)) (mono xs h)

-- within a time of at most 1,000,000 a good term asks for at most 2,000,000
pub demand-le : (xs : List Term) (t : ℕ) → GoodTerms xs → t ≤ 1000000 → demand xs t ≤ 2000000 * length xs
unfolding demand
demand-le [] t g h = zero-le
demand-le (x ∷ xs) t g h =
    let a = g 0 (omega arith) in
    omega (arith, share_le t x.period x.len a.short, a.period.1, demand-le xs t (λ i l. g (suc i) (omega arith)) h)

-- the demand of terms behind others is added to theirs
pub demand-append : (xs ys : List Term) (t : ℕ) → demand (xs ++ ys) t ≡ demand xs t + demand ys t
unfolding demand
demand-append [] ys t = omega arith
demand-append (x ∷ xs) ys t = omega (arith, demand-append xs ys t)

-- one term more
pub demand_more : (terms : List Term) (i t : ℕ) → i < length terms → demand (take (i + 1) terms) t ≡ demand (take i terms) t + ceil t (get_or terms i no_term).period * (get_or terms i no_term).len
unfolding demand
demand_more terms i t h = rw (take_more terms i no_term h, demand-append (take i terms) (get_or terms i no_term ∷ []) t) (omega arith)

-- the demand of the first k tasks on a processor, as a sum over the tasks
pub demand_on : (periods lens homes : List ℕ) (p k t : ℕ) → demand (terms_on periods lens homes p k) t ≡ total k (λ i. cond (eqb (get_or homes i 0) p) (ceil t (get_or periods i 0) * get_or lens i 0) 0)
unfolding terms_on total demand
demand_on periods lens homes p zero t = refl
demand_on periods lens homes p (suc k) t =
    demand-append (terms_on periods lens homes p k) _ t
    ∙ ap₂ (λ (a b : ℕ). a + b) (demand_on periods lens homes p k t) (last (eqb (get_or homes k 0) p))
  where
    last : (b : Bool) → demand (cond b (term_at periods lens k ∷ []) []) t ≡ cond b (ceil t (get_or periods k 0) * get_or lens k 0) 0
    last true = omega arith
    last false = refl
