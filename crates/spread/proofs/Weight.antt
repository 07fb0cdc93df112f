-- Laws of weights: what they are at most, and who makes them.
use Prim.Native.Nat.{ℕ, zero, suc, ◌+◌, ◌-◌, ◌*◌, ◌/◌, ◌%◌, min, ◌<◌, ◌≤◌, zero-le}
use mathlib.Core.Path.{◌≡◌, refl, ◌∙◌, ap}
use mathlib.Core.List.{List}
use mathlib.Core.Bool.{Bool, true, false, cond}
use mathlib.Core.Logic.{◌↔◌, dite}
use native.Mathlib.Omega.{arith}
use native.Mathlib.Decide.{dec_lt}
use native.Mathlib.Nat.{div-lt_iff_lt-mul, le-div_iff_mul-le, suc-mul, add_comm}
use native.Mathlib.Numerals.{add-one}
use lib.ListN.{length, get_or, take, drop, length-drop}
use lib.Dec.{ltb}
use Rattle.std.specs.List.{count_by}
use Rattle.std.specs.Int.{div_ceil}
use Rattle.std.proofs.lemmas.Grind.{div_ceil_times, get_or_after_one}
use Rattle.lists.proofs.Tab.{get_or-tab}
use Rattle.lists.proofs.Count.{counted, count_ext, count-le, count_all}
use Rattle.rank.specs.Ceiling.{uses}
use Rattle.bounds.specs.Demand.{ceil}
use Rattle.spread.specs.Weight.{GoodRows, GoodWeights, weight_of, weights_of, used_of, Used}

-- rounded up
pub rounded_up : (t period : ℕ) → 1 ≤ period → t / period + min 1 (t % period) ≡ ceil t period
unfolding ceil
rounded_up t period some =
    let q : ℕ = t / period + min 1 (t % period) in
    let (a, b) = div_ceil_times t period some in
    let up : q ≤ (t + (period - 1)) / period = (le-div_iff_mul-le some).1 (omega arith) in
    let down : (t + (period - 1)) / period < suc q = (div-lt_iff_lt-mul some).1 (omega (arith, suc-mul q period)) in
    omega arith

-- the same of an answer of std's rounding up, and of what it was asked for
pub rounded : {r x p : ℕ} (t period : ℕ) → r ≡ div_ceil x p → x ≡ t → p ≡ period → 1 ≤ period → r ≡ ceil t period
rounded t period q e f some = q ∙ rw (e, f) (rounded_up t period some)

-- a user weighs at most a million, since its section is no longer than its period
pub user_le : (section period : ℕ) → 1 ≤ period → section ≤ period → ceil (section * 1000000) period ≤ 1000000
unfolding ceil
user_le section period a b =
    omega (arith, (div-lt_iff_lt-mul {k = period} {x = section * 1000000 + (period - 1)} {y = 1000001} (omega arith)).1 (omega arith))

-- and so does a row, whether it is a user or not
part-le : (b : Bool) (x : ℕ) → x ≤ 1000000 → cond b x 0 ≤ 1000000
part-le true x h = h
part-le false x h = zero-le

module _ (periods sections resources : List ℕ) where
  -- one user more
  pub weight_more : (k r : ℕ) → weight_of periods sections resources (k + 1) r ≡ weight_of periods sections resources k r + cond (uses (get_or resources k 0) r) (ceil (get_or sections k 0 * 1000000) (get_or periods k 0)) 0
  unfolding weight_of
  weight_more k r = rw add-one

  -- n users weigh at most n million
  weight_le : (n r : ℕ) → GoodRows periods sections n → weight_of periods sections resources n r ≤ n * 1000000
  unfolding weight_of
  weight_le zero r good = zero-le
  weight_le (suc n) r good =
      let (a, b, c) = good n (omega arith) in
      omega (arith, weight_le n r (λ k l. good k (omega arith)), part-le (uses (get_or resources n 0) r) _ (user_le (get_or sections n 0) (get_or periods n 0) a c))

  -- a place of the column of weights
  pub weights_at : (n r : ℕ) → r < 17 → get_or (weights_of periods sections resources n) r 0 ≡ weight_of periods sections resources n r
  unfolding weights_of
  weights_at n r l = get_or-tab 17 (weight_of periods sections resources n) r 0 l

  -- no resource weighs more than 64 users can
  pub weights-le : (n : ℕ) → n ≤ 64 → GoodRows periods sections n → GoodWeights (weights_of periods sections resources n)
  weights-le n small good r l = omega (arith, weights_at n r l, weight_le n r good)

-- at most 16 resources are used
pub used_le : (weights : List ℕ) → used_of weights ≤ 16
unfolding used_of
used_le weights = omega (arith, count-le 16 (λ r. ltb 0 (get_or weights (r + 1) 0)) (λ r. true) (λ r l e. refl), count_all 16)

-- they are counted among the 16 weights behind the first
pub used_is : (weights : List ℕ) → length weights ≡ 17 → count_by (ltb 0) (take 16 (drop 1 weights)) ≡ used_of weights
unfolding used_of
used_is weights n =
    counted (ltb 0) (drop 1 weights) 16 (omega (arith, length-drop 1 weights))
    ∙ count_ext 16 _ (λ r. ltb 0 (get_or weights (r + 1) 0)) (λ j l. ap (ltb 0) (get_or_after_one weights j 0 ∙ ap (λ (i : ℕ). get_or weights i 0) (add_comm 1 j)))

-- a user with a section weighs something
user_pos : (section period : ℕ) → 1 ≤ period → 1 ≤ section → 1 ≤ ceil (section * 1000000) period
unfolding ceil
user_pos section period a b =
    dite (dec_lt ((section * 1000000 + (period - 1)) / period) 1)
    (λ h. absurd (omega (arith, (div-lt_iff_lt-mul {k = period} {x = section * 1000000 + (period - 1)} {y = 1} (omega arith)).0 h)))
    (λ h. omega arith)

module _ (periods sections resources : List ℕ) (r : ℕ) where
  -- what weighs something has a user
  weighed : (n : ℕ) → 0 < weight_of periods sections resources n r → Used resources r n
  unfolding weight_of
  weighed zero h = absurd (omega arith)
  weighed (suc n) h = go (uses (get_or resources n 0) r) refl h (weighed n)
    where
      go : (b : Bool) → uses (get_or resources n 0) r ≡ b → 0 < weight_of periods sections resources n r + cond b (ceil (get_or sections n 0 * 1000000) (get_or periods n 0)) 0 → (0 < weight_of periods sections resources n r → Used resources r n) → Used resources r (suc n)
      go true e h ih = (n, omega arith, e)
      go false e h ih =
          let (k, l, u) = ih (omega arith) in
          (k, omega arith, u)

  -- and what has a user weighs something
  weighs_by : (n k : ℕ) → k < n → uses (get_or resources k 0) r ≡ true → 1 ≤ get_or periods k 0 → 1 ≤ get_or sections k 0 → 0 < weight_of periods sections resources n r
  unfolding weight_of
  weighs_by zero k l u a b = absurd (omega arith)
  weighs_by (suc n) k l u a b =
      dite (dec_lt k n)
      (λ h. omega (arith, weighs_by n k h u a b))
      (λ h.
      let e : k ≡ n = omega arith in
      let u' : uses (get_or resources n 0) r ≡ true = rw e at u in
      rw u' (omega (arith, user_pos (get_or sections n 0) (get_or periods n 0) (rw e at a) (rw e at b))))

  -- a resource weighs something exactly when a row uses it
  pub weighs : (n : ℕ) → GoodRows periods sections n → ((k : ℕ) → k < n → uses (get_or resources k 0) r ≡ true → 1 ≤ get_or sections k 0) → (0 < weight_of periods sections resources n r) ↔ Used resources r n
  weighs n good long = (weighed n, λ (k, l, u). weighs_by n k l u (good k l).0 (long k l u))
