-- Lanes, filled task by task: each holds the terms of the tasks on its processor.
use Prim.Native.Nat.{ℕ, ◌+◌, ◌-◌, ◌*◌, ◌≤◌, ◌<◌}
use mathlib.Core.Path.{◌≡◌, sym, ◌∙◌, ap}
use mathlib.Core.List.{List, append-nil}
use mathlib.Core.Logic.{dite}
use native.Mathlib.Omega.{arith}
use native.Mathlib.Decide.{ℕ_discrete, dec_lt}
use borrow.Author.Tests.{eq-eqb, ne_eqb}
use lib.ListN.{length, get_or, set, drop, length-set, length-drop}
use lib.Seq.{get_or-set_same, get_or-set_other, drop-set-add}
use Rattle.std.proofs.lemmas.List.{take_more_set, take-set-le, drop-set-lt}
use Rattle.lists.specs.Tab.{blank}
use Rattle.lists.proofs.Tab.{length-blank, get_or-blank}
use Rattle.bounds.specs.declared.Lanes.{Lanes}
use Rattle.bounds.specs.Demand.{Term, GoodTerm, GoodTerms, no_term}
use Rattle.bounds.specs.Terms.{term_at, terms_on, lane}
use Rattle.bounds.proofs.Terms.{on_more, on_same, on_good}

-- a store at place c of lane p leaves the other lanes as they are
lane_other : (terms : List Term) (x : Term) (p q c n : ℕ) → c < 64 → n ≤ 64 → (q ≡ p → ⊥) → lane (set terms (64 * p + c) x) q n ≡ lane terms q n
unfolding lane
lane_other terms x p q c n h k d =
    dite (dec_lt q p)
    (λ l.
    let e : 64 * p + c ≡ 64 * q + (64 * p + c - 64 * q) = omega arith in
    rw (e, drop-set-add (64 * q) terms (64 * p + c - 64 * q) x) (take-set-le n (drop (64 * q) terms) (64 * p + c - 64 * q) x (omega arith)))
    (λ l. rw (drop-set-lt (64 * q) terms (64 * p + c) x (omega arith)))

module _ (ps ls : List ℕ) where
  -- the first k tasks are in the lanes of their homes
  pub record Filled (homes : List ℕ) (lanes : Lanes) (k : ℕ) : Type 0 where
    pub long : (length lanes.terms ≡ 1088) × (length lanes.count ≡ 17)
    pub few : (p : ℕ) → p < 17 → get_or lanes.count p 0 ≤ k
    pub holds : (p : ℕ) → p < 17 → lane lanes.terms p (get_or lanes.count p 0) ≡ terms_on ps ls homes p k

  -- blank lanes hold no task
  pub lanes_none : (homes : List ℕ) (lanes : Lanes) → lanes.terms ≡ blank 1088 no_term → lanes.count ≡ blank 17 0 → Filled homes lanes 0
  unfolding lane terms_on
  lanes_none homes lanes a b =
      record {
        long = (ap length a ∙ length-blank 1088 no_term, ap length b ∙ length-blank 17 0);
        few = λ p l. omega (arith, none p);
        holds = λ p l. rw (none p);
      }
    where
      none : (p : ℕ) → get_or lanes.count p 0 ≡ 0
      none p = ap (λ (x : List ℕ). get_or x p 0) b ∙ get_or-blank 17 0 p

  -- only the homes of the first k tasks count
  pub lanes_same : {homes others : List ℕ} {lanes : Lanes} {k : ℕ} → ((i : ℕ) → i < k → get_or homes i 0 ≡ get_or others i 0) → Filled homes lanes k → Filled others lanes k
  lanes_same {homes} {others} {k = k} e x =
      record {
        long = x.long;
        few = x.few;
        holds = λ p l. x.holds p l ∙ on_same ps ls homes others p k e;
      }

  -- what is bound on a lane is bound among good terms
  pub lanes_good : {homes : List ℕ} {lanes : Lanes} {k : ℕ} → Filled homes lanes k → ((i : ℕ) → i < k → GoodTerm (term_at ps ls i)) → (p : ℕ) → p < 17 → GoodTerms (lane lanes.terms p (get_or lanes.count p 0))
  lanes_good {homes} {k = k} x g p l = rw (x.holds p l) (on_good ps ls homes p k g)

  -- task k's term is stored behind those in the lane of its home
  pub lanes_more : {homes : List ℕ} {lanes more : Lanes} (k p : ℕ) → k < 64 → p < 17 → get_or homes k 0 ≡ p → Filled homes lanes k →
      more.terms ≡ set lanes.terms (64 * p + get_or lanes.count p 0) (term_at ps ls k) → more.count ≡ set lanes.count p (get_or lanes.count p 0 + 1) → Filled homes more (k + 1)
  unfolding lane
  lanes_more {homes} {lanes} {more} k p s l h x put counted =
      record {
        long = (ap length put ∙ length-set lanes.terms (64 * p + c) (term_at ps ls k) ∙ x.long.0, ap length counted ∙ length-set lanes.count p (c + 1) ∙ x.long.1);
        few = λ q m. dite (ℕ_discrete q p) (λ z. rw (z, own) (omega (arith, x.few p l))) (λ d. rw (other q d) (omega (arith, x.few q m)));
        holds = λ q m. dite (ℕ_discrete q p) (λ z. rw z here) (λ d. there q m d);
      }
    where
      c : ℕ
      c = get_or lanes.count p 0

      own : get_or more.count p 0 ≡ c + 1
      own = rw counted (get_or-set_same lanes.count p (c + 1) 0 (omega (arith, x.long.1)))

      other : (q : ℕ) → (q ≡ p → ⊥) → get_or more.count q 0 ≡ get_or lanes.count q 0
      other q d = rw counted (get_or-set_other lanes.count p q (c + 1) 0 d)

      here : lane more.terms p (get_or more.count p 0) ≡ terms_on ps ls homes p (k + 1)
      here =
          rw (own, put, drop-set-add (64 * p) lanes.terms c (term_at ps ls k), on_more ps ls homes p k, eq-eqb (get_or homes k 0) p h)
          (take_more_set (drop (64 * p) lanes.terms) c (term_at ps ls k) (omega (arith, length-drop (64 * p) lanes.terms, x.long.0, x.few p l)) ∙ rw (x.holds p l))

      there : (q : ℕ) → q < 17 → (q ≡ p → ⊥) → lane more.terms q (get_or more.count q 0) ≡ terms_on ps ls homes q (k + 1)
      there q m d =
          let e = lane_other lanes.terms (term_at ps ls k) p q c (get_or lanes.count q 0) (omega (arith, x.few p l)) (omega (arith, x.few q m)) d in
          rw (other q d, put, e, on_more ps ls homes q k, ne_eqb (get_or homes k 0) q (λ z. d (sym z ∙ h)), append-nil) (x.holds q m)
