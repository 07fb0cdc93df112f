-- Laws of fits: the cases of one, and that the first is found by trying one processor after the other.
use Prim.Native.Nat.{ℕ, ◌+◌, ◌-◌, ◌≤◌, ◌<◌, min, zero-le}
use mathlib.Core.Path.{◌≡◌, refl, sym, ◌∙◌, ap}
use mathlib.Core.List.{List}
use mathlib.Core.Bool.{Bool, true, false, cond}
use mathlib.Core.Logic.{◌↔◌, dite}
use native.Mathlib.Omega.{arith}
use native.Mathlib.Decide.{dec_lt, ℕ_discrete}
use borrow.Author.Tests.{lt-ltb, le-ltb, ltb-true, ltb-false, eq-eqb, ne_eqb}
use lib.ListN.{length}
use lib.Dec.{ltb, eqb}
use Rattle.std.specs.Prelude.{Option, Some, None, MatchOption, Ok, Err}
use Rattle.lists.specs.Smallest.{smallest}
use Rattle.lists.proofs.Smallest.{smallest_more, smallest_ext}
use Rattle.lists.proofs.First.{first_no, first_yes, first_is, first_none, first_ext}
use Rattle.bounds.specs.Demand.{Term, GoodTerms}
use Rattle.bounds.specs.Bound.{Bound, missing, bound_of, broke_of, LeastBound}
use Rattle.bounds.proofs.Search.{bound_exactly, bound_le, broke_small}
use Rattle.stages.specs.Stage.{processor_of, d1_of, d2_of, broke_place}
use Rattle.stages.specs.Fit.{Fit, Place, fits, unfit, on, nowhere, fit_of, fit_among, is_fit, broke_fit, first_fit, place_with, smallest_broke, place_among}

-- the two bounds of a fit, 0 for none
abbrev first_of : Fit → ℕ
first_of (Ok x) = x.d1
first_of (Err e) = 0

abbrev second_of : Fit → ℕ
second_of (Ok x) = x.d2
second_of (Err e) = 0

module _ (terms : List Term) (c1 c2 s t : ℕ) where
  -- what broke D1 keeps the task from fitting,
  pub fit_first : (v : ℕ) → bound_of terms c1 0 (t - s) ≡ missing v → fit_among terms c1 c2 s t ≡ unfit v
  unfolding fit_among fit_of
  fit_first v e = rw e

  -- else what broke D2,
  pub fit_second : (d1 v : ℕ) → bound_of terms c1 0 (t - s) ≡ Ok d1 → bound_of terms c2 0 (t - s) ≡ missing v → fit_among terms c1 c2 s t ≡ unfit v
  unfolding fit_among fit_of
  fit_second d1 v e f = rw (e, f)

  -- else it is a matter of the sum
  pub fit_both : (d1 d2 : ℕ) → bound_of terms c1 0 (t - s) ≡ Ok d1 → bound_of terms c2 0 (t - s) ≡ Ok d2 → fit_among terms c1 c2 s t ≡ cond (ltb t (d1 + s + d2)) (unfit (d1 + s + d2)) (fits d1 d2)
  unfolding fit_among fit_of
  fit_both d1 d2 e f = rw (e, f)

  -- "A task fits a processor when D1, D2 exist with D1 + S + D2 ≤ T", and they are the bounds that it has there
  pub fits_exactly : (d1 d2 : ℕ) → (fit_among terms c1 c2 s t ≡ fits d1 d2) ↔ (LeastBound terms c1 0 d1 × LeastBound terms c2 0 d2 × (d1 + s + d2 ≤ t))
  fits_exactly d1 d2 = (
    (λ h. bounds (bound_of terms c1 0 (t - s)) (bound_of terms c2 0 (t - s)) refl refl h),
    λ (x, y, l).
        let e = (bound_exactly terms 0 (t - s) d1 c1).1 (x, omega arith) in
        let f = (bound_exactly terms 0 (t - s) d2 c2).1 (y, omega arith) in
        fit_both d1 d2 e f ∙ rw (le-ltb t (d1 + s + d2) l),
  )
    where
      fit : (u v : ℕ) (b : Bool) → ltb t (u + s + v) ≡ b → LeastBound terms c1 0 u → LeastBound terms c2 0 v → cond b (unfit (u + s + v)) (fits u v) ≡ fits d1 d2 → LeastBound terms c1 0 d1 × LeastBound terms c2 0 d2 × (d1 + s + d2 ≤ t)
      fit u v true e x y h = cc
      fit u v false e x y h =
          let p : u ≡ d1 = ap first_of h in
          let q : v ≡ d2 = ap second_of h in
          (rw (sym p) x, rw (sym q) y, omega (arith, ltb-false t (u + s + v) e))

      bounds : (x y : Bound) → bound_of terms c1 0 (t - s) ≡ x → bound_of terms c2 0 (t - s) ≡ y → fit_among terms c1 c2 s t ≡ fits d1 d2 → LeastBound terms c1 0 d1 × LeastBound terms c2 0 d2 × (d1 + s + d2 ≤ t)
      bounds (Err w) y e f h = let q = sym (fit_first w.value e) ∙ h in cc
      bounds (Ok u) (Err w) e f h = let q = sym (fit_second u w.value e f) ∙ h in cc
      bounds (Ok u) (Ok v) e f h =
          fit u v (ltb t (u + s + v)) refl ((bound_exactly terms 0 (t - s) u c1).0 e).0 ((bound_exactly terms 0 (t - s) v c2).0 f).0 (sym (fit_both u v e f) ∙ h)

  -- what keeps a task of a good table from fitting fits into 32 bits
  pub fit_small : GoodTerms terms → length terms ≤ 64 → c1 ≤ 1000000 → c2 ≤ 1000000 → t ≤ 1000000 → s ≤ t → broke_fit (fit_among terms c1 c2 s t) ≤ 130000000
  unfolding fit_among fit_of
  fit_small g few a b l h =
      go (bound_of terms c1 0 (t - s)) (bound_of terms c2 0 (t - s)) refl refl
      (broke_small terms c1 0 (t - s) g few a (omega arith) (omega arith))
      (broke_small terms c2 0 (t - s) g few b (omega arith) (omega arith))
    where
      sum : (u v : ℕ) (b : Bool) → u ≤ t - s → v ≤ t - s → broke_fit (cond b (unfit (u + s + v)) (fits u v)) ≤ 130000000
      sum u v true x y = omega arith
      sum u v false x y = zero-le

      go : (x y : Bound) → bound_of terms c1 0 (t - s) ≡ x → bound_of terms c2 0 (t - s) ≡ y → broke_of x ≤ 130000000 → broke_of y ≤ 130000000 → broke_fit (fit_of x y s t) ≤ 130000000
      go (Err v) y e f p q = p
      go (Ok u) (Err v) e f p q = q
      go (Ok u) (Ok v) e f p q = sum u v (ltb t (u + s + v)) (bound_le terms 0 (t - s) u c1 e) (bound_le terms 0 (t - s) v c2 f)

module _ (fit : ℕ → Fit) (s m : ℕ) where
  -- none of processors s + 1 to p - 1 has a fit
  abbrev pub NoFit : ℕ → Type 0
  NoFit p = (q : ℕ) → s < q → q < p → is_fit (fit q) ≡ false

  -- one processor more has none
  pub no_fit_more : (p : ℕ) → NoFit p → is_fit (fit p) ≡ false → NoFit (p + 1)
  no_fit_more p h e q a b = dite (dec_lt q p) (λ l. h q a l) (λ l. let z : q ≡ p = omega arith in rw z e)

  -- the smallest of the values of processors s + 1 to p - 1
  abbrev pub smallest_to : ℕ → ℕ
  smallest_to p = smallest (p - (s + 1)) (λ q. broke_fit (fit (s + 1 + q)))

  -- the first value is the smallest so far, and any other is held against it
  pub smallest_next : (p v : ℕ) → s < p → fit p ≡ unfit v → cond (eqb p (s + 1)) v (min v (smallest_to p)) ≡ smallest_to (p + 1)
  smallest_next p v a e =
      let j : ℕ = p - (s + 1) in
      let f : ℕ → ℕ = λ q. broke_fit (fit (s + 1 + q)) in
      let z : s + 1 + j ≡ p = omega arith in
      let x : f j ≡ v = ap (λ (q : ℕ). broke_fit (fit q)) z ∙ ap broke_fit e in
      let y : eqb p (s + 1) ≡ eqb j 0 = dite (ℕ_discrete p (s + 1)) (λ h. eq-eqb p (s + 1) h ∙ sym (eq-eqb j 0 (omega arith))) (λ h. ne_eqb p (s + 1) h ∙ sym (ne_eqb j 0 (λ g. h (omega arith)))) in
      let w : p + 1 - (s + 1) ≡ j + 1 = omega arith in
      sym (ap (λ (n : ℕ). smallest n f) w ∙ smallest_more f j ∙ rw (x, y))

  -- it is kept as an option, none at first
  abbrev pub least_to : ℕ → Option ℕ
  least_to p = cond (eqb p (s + 1)) None (Some (smallest_to p))

  -- one value more
  pub least_more : (p v r : ℕ) (least : Option ℕ) → s < p → fit p ≡ unfit v → least ≡ least_to p → MatchOption least (r ≡ v) (λ x. r ≡ min v x) → Some r ≡ least_to (p + 1)
  least_more p v r least a e h k = rw (ne_eqb (p + 1) (s + 1) (λ z. omega arith)) (ap Some (go (eqb p (s + 1)) (rw h at k) ∙ smallest_next p v a e))
    where
      go : (b : Bool) → MatchOption (cond b None (Some (smallest_to p))) (r ≡ v) (λ x. r ≡ min v x) → r ≡ cond b v (min v (smallest_to p))
      go true k = k
      go false k = k

  -- and behind the last it is there
  pub least_end : (r : ℕ) (least : Option ℕ) → s < m → least ≡ least_to (m + 1) → least ≡ Some r → smallest_to (m + 1) ≡ r
  least_end r least a h e =
      let x : Some (smallest_to (m + 1)) ≡ Some r = rw (ne_eqb (m + 1) (s + 1) (λ z. omega arith)) at (sym h ∙ e) in
      cc

  -- the first that has a fit is the place
  pub place_at : (p d1 d2 : ℕ) → s < p → p ≤ m → NoFit p → fit p ≡ fits d1 d2 → place_among fit s m ≡ on p d1 d2
  unfolding place_among place_with
  place_at p d1 d2 a b h e =
      let z : s + 1 + (p - (s + 1)) ≡ p = omega arith in
      let y : is_fit (fit (s + 1 + (p - (s + 1)))) ≡ true = ap (λ (q : ℕ). is_fit (fit q)) z ∙ ap is_fit e in
      let x : first_fit fit (s + 1) (m - s) ≡ p = ap (λ (q : ℕ). s + 1 + q) (first_is (m - s) (λ q. is_fit (fit (s + 1 + q))) (p - (s + 1)) (omega arith) (λ j l. h (s + 1 + j) (omega arith) (omega arith)) y) ∙ z in
      rw (x, le-ltb m p b, e)

  -- and where none has one there is no place
  pub place_none : s < m → NoFit (m + 1) → place_among fit s m ≡ nowhere (smallest_to (m + 1))
  unfolding place_among smallest_broke
  place_none a h =
      let x : first_fit fit (s + 1) (m - s) ≡ m + 1 = ap (λ (q : ℕ). s + 1 + q) (first_none (m - s) (λ q. is_fit (fit (s + 1 + q))) (λ j l. h (s + 1 + j) (omega arith) (omega arith))) ∙ omega arith in
      let y : m + 1 - (s + 1) ≡ m - s = omega arith in
      rw (x, lt-ltb m (m + 1) (omega arith), y)

-- fits that agree on processors s + 1 to m have the same place
pub place_ext : (fit other : ℕ → Fit) (s m : ℕ) → ((p : ℕ) → s < p → p ≤ m → fit p ≡ other p) → place_among fit s m ≡ place_among other s m
unfolding place_among smallest_broke
place_ext fit other s m h = rw (x, z) (go (ltb m (first_fit other (s + 1) (m - s))) refl)
  where
    x : first_fit fit (s + 1) (m - s) ≡ first_fit other (s + 1) (m - s)
    x = ap (λ (q : ℕ). s + 1 + q) (first_ext (m - s) (λ q. is_fit (fit (s + 1 + q))) (λ q. is_fit (other (s + 1 + q))) (λ j l. ap is_fit (h (s + 1 + j) (omega arith) (omega arith))))

    y : ℕ
    y = smallest (m - s) (λ q. broke_fit (other (s + 1 + q)))

    z : smallest (m - s) (λ q. broke_fit (fit (s + 1 + q))) ≡ y
    z = smallest_ext (m - s) (λ q. broke_fit (fit (s + 1 + q))) (λ q. broke_fit (other (s + 1 + q))) (λ j l. ap broke_fit (h (s + 1 + j) (omega arith) (omega arith)))

    go : (b : Bool) → ltb m (first_fit other (s + 1) (m - s)) ≡ b → cond b (nowhere y) (place_with (first_fit other (s + 1) (m - s)) (fit (first_fit other (s + 1) (m - s)))) ≡ cond b (nowhere y) (place_with (first_fit other (s + 1) (m - s)) (other (first_fit other (s + 1) (m - s))))
    go true e = refl
    go false e = rw (h (first_fit other (s + 1) (m - s)) (omega arith) (ltb-false m (first_fit other (s + 1) (m - s)) e))

-- below the first that has a fit, none has one
before_fit : (fit : ℕ → Fit) (s m p : ℕ) → p ≤ first_fit fit (s + 1) (m - s) → NoFit fit s m p
before_fit fit s m p h q a b =
    let z : s + 1 + (q - (s + 1)) ≡ q = omega arith in
    ap (λ (r : ℕ). is_fit (fit r)) (sym z) ∙ first_no (m - s) (λ r. is_fit (fit (s + 1 + r))) (q - (s + 1)) (omega arith)

-- a place is the lowest-numbered of processors s + 1 to m that the task fits
pub place_in : (fit : ℕ → Fit) (s m p d1 d2 : ℕ) → place_among fit s m ≡ on p d1 d2 → (s < p) × (p ≤ m) × (fit p ≡ fits d1 d2) × NoFit fit s m p
unfolding place_among place_with
place_in fit s m p d1 d2 h = go (ltb m (first_fit fit (s + 1) (m - s))) refl (fit (first_fit fit (s + 1) (m - s))) refl h
  where
    x : ℕ
    x = first_fit fit (s + 1) (m - s)

    go : (b : Bool) → ltb m x ≡ b → (f : Fit) → fit x ≡ f → cond b (nowhere (smallest_broke fit s m)) (place_with x f) ≡ on p d1 d2 → (s < p) × (p ≤ m) × (fit p ≡ fits d1 d2) × NoFit fit s m p
    go true e f g h = cc
    go false e (Err v) g h = cc
    go false e (Ok u) g h =
        let q : x ≡ p = ap processor_of h in
        let y : fits u.d1 u.d2 ≡ fits d1 d2 = ap (λ (z : Place). fits (d1_of z) (d2_of z)) h in
        (omega arith, omega (arith, ltb-false m x e), ap fit (sym q) ∙ g ∙ y, before_fit fit s m p (omega arith))

-- and where there is none it fits none of them, and the value is the smallest of theirs
pub place_out : (fit : ℕ → Fit) (s m v : ℕ) → place_among fit s m ≡ nowhere v → NoFit fit s m (m + 1) × (smallest_broke fit s m ≡ v)
unfolding place_among place_with
place_out fit s m v h = go (ltb m (first_fit fit (s + 1) (m - s))) refl (fit (first_fit fit (s + 1) (m - s))) refl h
  where
    x : ℕ
    x = first_fit fit (s + 1) (m - s)

    go : (b : Bool) → ltb m x ≡ b → (f : Fit) → fit x ≡ f → cond b (nowhere (smallest_broke fit s m)) (place_with x f) ≡ nowhere v → NoFit fit s m (m + 1) × (smallest_broke fit s m ≡ v)
    go true e f g h = (before_fit fit s m (m + 1) (omega (arith, ltb-true m x e)), ap broke_place h)
    go false e (Ok u) g h = cc
    go false e (Err w) g h =
        let l : x ≤ m = ltb-false m x e in
        let y : ◌≡◌ {A = Bool} true false = sym (first_yes (m - s) (λ q. is_fit (fit (s + 1 + q))) (omega arith)) ∙ ap is_fit g in
        cc
