-- The least bound, once for every list of terms: the definition is the least time that covers, or the first member of the sequence above the
-- limit.
use Prim.Native.Nat.{ℕ, zero, suc, ◌+◌, ◌≤◌, ◌<◌, zero-le}
use mathlib.Core.Path.{◌≡◌, refl, sym, ap}
use mathlib.Core.List.{List}
use mathlib.Core.Bool.{Bool, true, false, cond}
use mathlib.Core.Logic.{◌↔◌, dite}
use native.Mathlib.Omega.{arith}
use native.Mathlib.Decide.{dec_lt}
use borrow.Author.Tests.{lt-ltb, le-ltb, eq-eqb, ne_eqb, ltb-true, ltb-false, eqb-true}
use lib.ListN.{length}
use lib.Dec.{ltb, eqb}
use Rattle.lists.specs.First.{first}
use Rattle.lists.proofs.Tests.{not_both, both}
use Rattle.lists.proofs.First.{first_no, first_yes, first_is, first_none}
use Rattle.bounds.specs.Demand.{Term, demand, GoodTerms}
use Rattle.bounds.specs.Sequence.{sequence, first_above, Breaks}
use Rattle.bounds.specs.Bound.{Bound, missing, meets, least, bound_of, Least, LeastBound, is_missing, time_of, broke_of}
use Rattle.std.specs.Prelude.{Ok, Err}
use Rattle.bounds.proofs.Asked.{mono}
use Rattle.bounds.proofs.Sequence.{NoneCovers, breaks_none, breaks_one, above_breaks, breaks_small}

module _ (terms : List Term) (own : ℕ) where
  -- a time that is not just what is asked for does not meet it
  meets_no : (t : ℕ) → (own + demand terms t ≡ t → ⊥) → meets terms own t ≡ false
  meets_no zero h = refl
  meets_no (suc t) h = rw (lt-ltb 0 (suc t) (omega arith), ne_eqb (own + demand terms (suc t)) (suc t) h)

  -- one of at least 1 that is does
  meets_yes : (t : ℕ) → 1 ≤ t → own + demand terms t ≡ t → meets terms own t ≡ true
  meets_yes t l e = rw (lt-ltb 0 t l, eq-eqb (own + demand terms t) t e)

  -- and a time that meets it is such a one
  met : (t : ℕ) → meets terms own t ≡ true → (1 ≤ t) × (own + demand terms t ≡ t)
  met t e =
      let (a, b) = both (ltb 0 t) (eqb (own + demand terms t) t) e in
      (ltb-true 0 t a, eqb-true (own + demand terms t) t b)

  -- a time that is just what is asked for, with none below it that covers, is the bound
  pub least_at : (limit t : ℕ) → 1 ≤ t → t ≤ limit → ((u : ℕ) → own + demand terms u ≤ u → t ≤ u) → own + demand terms t ≡ t → least terms own limit ≡ Ok t
  unfolding least
  least_at limit t s l under e =
      let q : first (suc limit) (meets terms own) ≡ t = first_is (suc limit) (meets terms own) t (omega arith) (λ j k. meets_no j (λ f. omega (arith, under j (omega arith)))) (meets_yes t s e) in
      rw (q, le-ltb limit t l)

  -- where a member of the sequence is the first above the limit there is none, and that member is answered
  pub least_none : (limit v : ℕ) → 1 ≤ own → Breaks terms own limit v → least terms own limit ≡ missing v
  unfolding least
  least_none limit v o b =
      let none = breaks_none terms own limit v b in
      let q : first (suc limit) (meets terms own) ≡ suc limit = first_none (suc limit) (meets terms own) (λ j k. meets_no j (λ f. none j (omega arith) (omega arith))) in
      rw (q, lt-ltb limit (suc limit) (omega arith)) (ap missing (breaks_one terms own limit _ v (above_breaks terms own limit o none) b))

  -- below a time that covers there is one that is just what is asked for
  covered : (f u : ℕ) → u ≤ f → own + demand terms u ≤ u → (v : ℕ) × (v ≤ u) × (own + demand terms v ≡ v)
  covered zero u l h = (u, omega arith, omega arith)
  covered (suc f) u l h =
      dite (dec_lt (own + demand terms u) u)
      (λ s.
      let (v, k, e) = covered f (own + demand terms u) (omega arith) (omega (arith, mono terms h)) in
      (v, omega arith, e))
      (λ s. (u, omega arith, omega arith))

  -- a bound is the least time that covers what is asked for within it
  pub least_is : (limit t : ℕ) → 1 ≤ own → least terms own limit ≡ Ok t → Least terms own t × (t ≤ limit)
  unfolding least
  least_is limit t o h = go (ltb limit (first (suc limit) (meets terms own))) refl h
    where
      x : ℕ
      x = first (suc limit) (meets terms own)

      lowest : (u : ℕ) → own + demand terms u ≤ u → x ≤ u
      lowest u c =
          let (v, k, e) = covered u u (omega arith) c in
          dite (dec_lt v x)
          (λ b. absurd (not_both (meets_yes v (omega arith) e) (first_no (suc limit) (meets terms own) v b)))
          (λ b. omega arith)

      go : (b : Bool) → ltb limit x ≡ b → cond b (missing (sequence terms own (first_above terms own limit))) (Ok x) ≡ Ok t → Least terms own t × (t ≤ limit)
      go true e h = cc
      go false e h =
          let q : x ≡ t = cc in
          let l : x ≤ limit = ltb-false limit x e in
          let m = met x (first_yes (suc limit) (meets terms own) (omega arith)) in
          rw (sym q) (record { some = m.0; same = m.1; below = λ u s. lowest u }, l)

  -- where there is none, what is answered is the first member above the limit
  least_breaks : (limit v : ℕ) → 1 ≤ own → least terms own limit ≡ missing v → Breaks terms own limit v
  unfolding least
  least_breaks limit v o h = go (ltb limit (first (suc limit) (meets terms own))) refl h
    where
      x : ℕ
      x = first (suc limit) (meets terms own)

      y : ℕ
      y = sequence terms own (first_above terms own limit)

      none : limit < x → NoneCovers terms own limit
      none l u k c =
          let (w, a, f) = covered u u (omega arith) c in
          not_both (meets_yes w (omega arith) f) (first_no (suc limit) (meets terms own) w (omega arith))

      go : (b : Bool) → ltb limit x ≡ b → cond b (missing y) (Ok x) ≡ missing v → Breaks terms own limit v
      go true e h =
          let q : y ≡ v = ap broke_of h in
          rw q at (above_breaks terms own limit o (none (ltb-true limit x e)))
      go false e h = cc

  -- "Where a bound is missing the search answers the value that broke the limit", and only there
  pub missing_exactly : (limit v : ℕ) → 1 ≤ own → (least terms own limit ≡ missing v) ↔ Breaks terms own limit v
  missing_exactly limit v o = (least_breaks limit v o, least_none limit v o)

module _ (terms : List Term) (blocking limit t : ℕ) where
  -- the bound of a length of at least 1 is the least time that covers what is asked for within it
  bound_is : (len : ℕ) → 1 ≤ len → bound_of terms len blocking limit ≡ Ok t → Least terms (len + blocking) t × (t ≤ limit)
  unfolding bound_of
  bound_is len l h = least_is terms (len + blocking) limit t (omega arith) (rw (ne_eqb len 0 (λ e. omega arith)) at h)

  -- a length of 0 has the bound 0
  pub bound_zero : bound_of terms 0 blocking limit ≡ Ok t → t ≡ 0
  unfolding bound_of
  bound_zero h = ap time_of (sym h)

  -- no bound is above its limit
  pub bound_le : (len : ℕ) → bound_of terms len blocking limit ≡ Ok t → t ≤ limit
  bound_le zero h = omega (arith, bound_zero h)
  bound_le (suc len) h = (bound_is (suc len) (omega arith) h).1

  -- what is given is the bound, and not above the limit
  pub bound_least : (len : ℕ) → bound_of terms len blocking limit ≡ Ok t → LeastBound terms len blocking t × (t ≤ limit)
  bound_least len h =
      (record { none = λ e. bound_zero (rw e at h); some = λ l. (bound_is len l h).0 }, bound_le len h)

  -- and a bound that is not above the limit is given
  bound_given : (len : ℕ) → LeastBound terms len blocking t → t ≤ limit → bound_of terms len blocking limit ≡ Ok t
  unfolding bound_of
  bound_given zero b l = ap Ok (sym (b.none refl))
  bound_given (suc len) b l =
      let x : Least terms (suc len + blocking) t = b.some (omega arith) in
      rw (ne_eqb (suc len) 0 (λ e. omega arith)) (least_at terms (suc len + blocking) limit t x.some l (λ u c. x.below u (omega arith) c) x.same)

  -- a bound is given exactly when it is at most the limit
  pub bound_exactly : (len : ℕ) → (bound_of terms len blocking limit ≡ Ok t) ↔ (LeastBound terms len blocking t × (t ≤ limit))
  bound_exactly len = (bound_least len, λ (b, l). bound_given len b l)

  -- none is given exactly where a length of at least 1 has a first member above the limit in the sequence that starts with the length plus B,
  -- and that is the value
  pub broke_exactly : (len : ℕ) → (bound_of terms len blocking limit ≡ missing t) ↔ ((1 ≤ len) × Breaks terms (len + blocking) limit t)
  unfolding bound_of
  broke_exactly zero = ((λ h. cc), λ (l, b). absurd (omega arith))
  broke_exactly (suc len) =
      rw (ne_eqb (suc len) 0 (λ e. omega arith)) (
        (λ h. (omega arith, least_breaks terms (suc len + blocking) limit t (omega arith) h)),
        λ (l, b). least_none terms (suc len + blocking) limit t (omega arith) b,
      )

-- none is missing exactly when there is one that is at most the limit
pub bound_there : (terms : List Term) (len blocking limit : ℕ) → (is_missing (bound_of terms len blocking limit) ≡ false) ↔ ((t : ℕ) × LeastBound terms len blocking t × (t ≤ limit))
bound_there terms len blocking limit = (
  (λ h. go (bound_of terms len blocking limit) refl h),
  λ (t, b, l). ap is_missing ((bound_exactly terms blocking limit t len).1 (b, l)),
)
  where
    go : (b : Bound) → bound_of terms len blocking limit ≡ b → is_missing b ≡ false → (t : ℕ) × LeastBound terms len blocking t × (t ≤ limit)
    go (Ok t) e h =
        let (b, l) = bound_least terms blocking limit t len e in
        (t, b, l)
    go (Err v) e h = cc

-- what broke a limit fits into 32 bits, in every good table
pub broke_small : (terms : List Term) (len blocking limit : ℕ) → GoodTerms terms → length terms ≤ 64 → len ≤ 1000000 → blocking ≤ 1000000 → limit ≤ 1000000 → broke_of (bound_of terms len blocking limit) ≤ 130000000
broke_small terms len blocking limit g few a b c = go (bound_of terms len blocking limit) refl
  where
    go : (x : Bound) → bound_of terms len blocking limit ≡ x → broke_of x ≤ 130000000
    go (Ok t) e = zero-le
    go (Err v) e = breaks_small terms (len + blocking) limit v.value g few (omega arith) c ((broke_exactly terms blocking limit v.value len).0 e).1
