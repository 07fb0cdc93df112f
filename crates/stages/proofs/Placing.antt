-- The places of tasks, one after the other.
use Prim.Native.Nat.{ℕ, zero, suc, ◌+◌, ◌*◌, ◌≤◌, ◌<◌}
use mathlib.Core.Path.{◌≡◌, refl, sym, ◌∙◌, ap}
use mathlib.Core.List.{List}
use mathlib.Core.Bool.{Bool, true, false, cond}
use mathlib.Core.Logic.{◌↔◌, dite}
use native.Mathlib.Omega.{arith}
use native.Mathlib.Numerals.{add-one}
use native.Mathlib.Decide.{ℕ_discrete}
use borrow.Author.Count.{below_more}
use borrow.Author.Tests.{lt-ltb, le-ltb}
use lib.ListN.{length, get_or, set, length-set}
use lib.Dec.{ltb}
use lib.Seq.{get_or-set_same, get_or-set_other}
use Rattle.std.specs.Prelude.{Ok, Err}
use Rattle.lists.specs.Tab.{blank, filled}
use Rattle.lists.proofs.Tests.{not_both}
use Rattle.lists.proofs.Tab.{filled_none, filled_next, get_or-filled, length-blank}
use Rattle.lists.proofs.First.{first_no, first-le, first_is, first_none}
use Rattle.bounds.specs.Demand.{GoodTerm}
use Rattle.bounds.specs.Terms.{term_at, terms_on, lane}
use Rattle.bounds.specs.Bound.{LeastBound}
use Rattle.bounds.proofs.Terms.{on_same}
use Rattle.bounds.specs.declared.Lanes.{Lanes}
use Rattle.bounds.proofs.Filling.{Filled, lanes_same, lanes_more}
use Rattle.stages.specs.Fit.{Fit, Place, fits, on, nowhere, fit_among, is_fit, place_among}
use Rattle.stages.specs.Good.{GoodStages}
use Rattle.stages.specs.Stage.{processor_of, d1_of, d2_of, is_nowhere, fit_on, placed, place_of, first_nowhere, nowhere_value, stages_to, stages_of, stages_in}
use Rattle.stages.specs.declared.Stages.{Stages}
use Rattle.stages.proofs.Fitting.{fits_exactly, place_at, place_none, place_ext, place_in, place_out}

module _ (periods c1s c2s works sections : List ℕ) (s m : ℕ) where
  -- a place for each of 64 tasks
  pub length-placed : (k : ℕ) → length (placed periods c1s c2s works sections s m k) ≡ 64
  unfolding placed place_of
  length-placed zero = length-blank 64 0
  length-placed (suc k) = length-set (placed periods c1s c2s works sections s m k) k (processor_of (place_of periods c1s c2s works sections s m k)) ∙ length-placed k

  -- a task's stages as a term
  pub good_term : (n : ℕ) → GoodStages periods c1s c2s works sections n s m → (k : ℕ) → k < n → GoodTerm (term_at periods works k)
  good_term n g k l = record { period = g.period k l; short = (g.work k l).1 }

  -- each of the first k tasks has a place
  abbrev FitSoFar : ℕ → Type 0
  FitSoFar k = (j : ℕ) → j < k → is_nowhere (place_of periods c1s c2s works sections s m j) ≡ false

  -- the arrays hold the places of the first k tasks
  pub record Held (k : ℕ) (xs ys zs : List ℕ) : Type 0 where
    pub processors : xs ≡ placed periods c1s c2s works sections s m k
    pub d1s : ys ≡ filled 64 0 k (λ j. d1_of (place_of periods c1s c2s works sections s m j))
    pub d2s : zs ≡ filled 64 0 k (λ j. d2_of (place_of periods c1s c2s works sections s m j))
    pub so_far : FitSoFar k

  -- blank arrays hold no task
  pub held_none : (xs ys zs : List ℕ) → xs ≡ blank 64 0 → ys ≡ blank 64 0 → zs ≡ blank 64 0 → Held 0 xs ys zs
  unfolding placed
  held_none xs ys zs e f g =
      record {
        processors = e;
        d1s = f ∙ sym (filled_none 64 0 (λ j. d1_of (place_of periods c1s c2s works sections s m j)));
        d2s = g ∙ sym (filled_none 64 0 (λ j. d2_of (place_of periods c1s c2s works sections s m j)));
        so_far = λ j l. absurd (omega arith);
      }

  -- one task more
  pub held_more : {xs ys zs : List ℕ} (k p d1 d2 : ℕ) → k < 64 → place_of periods c1s c2s works sections s m k ≡ on p d1 d2 → Held k xs ys zs → Held (k + 1) (set xs k p) (set ys k d1) (set zs k d2)
  unfolding placed place_of
  held_more {xs} {ys} {zs} k p d1 d2 l e h =
      record {
        processors = rw (add-one) (ap (λ (x : List ℕ). set x k p) h.processors ∙ ap (λ (x : ℕ). set (placed periods c1s c2s works sections s m k) k x) (sym (ap processor_of e)));
        d1s = column d1_of ys d1 h.d1s (ap d1_of e);
        d2s = column d2_of zs d2 h.d2s (ap d2_of e);
        so_far = below_more (λ j. is_nowhere (place_of periods c1s c2s works sections s m j) ≡ false) k h.so_far (ap is_nowhere e);
      }
    where
      column : (part : Place → ℕ) (out : List ℕ) (v : ℕ) → out ≡ filled 64 0 k (λ j. part (place_of periods c1s c2s works sections s m j)) → part (place_of periods c1s c2s works sections s m k) ≡ v → set out k v ≡ filled 64 0 (k + 1) (λ j. part (place_of periods c1s c2s works sections s m j))
      column part out v q w = rw (sym w) (filled_next 64 0 (λ j. part (place_of periods c1s c2s works sections s m j)) k out l q)

  -- what is found on the lanes is the place
  pub place_found : {lanes : Lanes} {xs ys zs : List ℕ} (k : ℕ) → m ≤ 16 → Held k xs ys zs → Filled periods works xs lanes k →
      place_among (λ p. fit_among (lane lanes.terms p (get_or lanes.count p 0)) (get_or c1s k 0) (get_or c2s k 0) (get_or sections k 0) (get_or periods k 0)) s m ≡ place_of periods c1s c2s works sections s m k
  unfolding place_of fit_on
  place_found k l h x = rw (sym h.processors) (place_ext _ _ s m (λ p a b. rw (x.holds p (omega arith))))

  -- a placed task's term goes to the lane of its processor
  pub lanes_next : {lanes more : Lanes} {xs : List ℕ} (k p : ℕ) → k < 64 → p < 17 → length xs ≡ 64 → Filled periods works xs lanes k →
      more.terms ≡ set lanes.terms (64 * p + get_or lanes.count p 0) (term_at periods works k) → more.count ≡ set lanes.count p (get_or lanes.count p 0 + 1) → Filled periods works (set xs k p) more (k + 1)
  lanes_next {xs = xs} k p l b n x put counted =
      lanes_more periods works k p l b (get_or-set_same xs k p 0 (omega arith))
      (lanes_same periods works (λ i a. sym (get_or-set_other xs k i p 0 (λ z. omega arith))) x) put counted

  -- the first that fits none ends it, with its value
  pub stages_nowhere : {xs ys zs : List ℕ} (n k v : ℕ) → k < n → Held k xs ys zs → place_of periods c1s c2s works sections s m k ≡ nowhere v → Err (record { task = k; value = v; placed = record { processor = xs; d1 = ys; d2 = zs } }) ≡ stages_of periods c1s c2s works sections s m n
  unfolding stages_of stages_to nowhere_value first_nowhere
  stages_nowhere n k v l h e =
      let x : first_nowhere periods c1s c2s works sections s m n ≡ k = first_is n (λ k. is_nowhere (place_of periods c1s c2s works sections s m k)) k l h.so_far (ap is_nowhere e) in
      rw (x, lt-ltb k n l, e, h.processors, h.d1s, h.d2s)

  -- and where each fits one, all are held
  pub stages_all : {xs ys zs : List ℕ} (n : ℕ) → Held n xs ys zs → Ok (record { processor = xs; d1 = ys; d2 = zs }) ≡ stages_of periods c1s c2s works sections s m n
  unfolding stages_of stages_to nowhere_value first_nowhere
  stages_all n h =
      let x : first_nowhere periods c1s c2s works sections s m n ≡ n = first_none n (λ k. is_nowhere (place_of periods c1s c2s works sections s m k)) h.so_far in
      rw (x, le-ltb n n (omega arith), h.processors, h.d1s, h.d2s)

  -- tasks that are placed later leave a task where it is
  placed_keeps : (n k i : ℕ) → i < k → k ≤ n → get_or (placed periods c1s c2s works sections s m n) i 0 ≡ get_or (placed periods c1s c2s works sections s m k) i 0
  unfolding placed place_of
  placed_keeps zero k i l h = absurd (omega arith)
  placed_keeps (suc n) k i l h =
      dite (ℕ_discrete k (suc n))
      (λ e. ap (λ (j : ℕ). get_or (placed periods c1s c2s works sections s m j) i 0) (sym e))
      (λ d. get_or-set_other (placed periods c1s c2s works sections s m n) n i (processor_of (place_of periods c1s c2s works sections s m n)) 0 (λ e. omega arith) ∙ placed_keeps n k i l (omega arith))

  -- a task's processor
  placed_at : (n k : ℕ) → k < n → k < 64 → get_or (placed periods c1s c2s works sections s m n) k 0 ≡ processor_of (place_of periods c1s c2s works sections s m k)
  unfolding placed place_of
  placed_at n k l b =
      placed_keeps n (suc k) k (omega arith) (omega arith)
      ∙ get_or-set_same (placed periods c1s c2s works sections s m k) k (processor_of (place_of periods c1s c2s works sections s m k)) 0 (omega (arith, length-placed k))

  -- task k, beside the better-ranked tasks with these homes, fits processor p, one of s + 1 to m: each of its two bounds is the
  -- least that covers, and the three bounds fit into the period
  abbrev pub Placed : List ℕ → ℕ → ℕ → ℕ → ℕ → Type 0
  Placed homes k p d1 d2 =
      (s < p) × (p ≤ m)
      × LeastBound (terms_on periods works homes p k) (get_or c1s k 0) 0 d1
      × LeastBound (terms_on periods works homes p k) (get_or c2s k 0) 0 d2
      × (d1 + get_or sections k 0 + d2 ≤ get_or periods k 0)

  -- what a fit beside the tasks before it is
  fit_placed : (k p d1 d2 : ℕ) → s < p → p ≤ m → (fit_on periods c1s c2s works sections s m (placed periods c1s c2s works sections s m k) k p ≡ fits d1 d2) ↔ Placed (placed periods c1s c2s works sections s m k) k p d1 d2
  unfolding fit_on
  fit_placed k p d1 d2 a b =
      let x = fits_exactly (terms_on periods works (placed periods c1s c2s works sections s m k) p k) (get_or c1s k 0) (get_or c2s k 0) (get_or sections k 0) (get_or periods k 0) d1 d2 in (
        (λ h.
            let (u, v, w) = x.0 h in
            (a, b, u, v, w)),
        λ (c, d, u, v, w). x.1 (u, v, w),
      )

  -- a processor where the task cannot be placed so has no fit
  not_placed : (k p : ℕ) → s < p → p ≤ m → ((d1 d2 : ℕ) → Placed (placed periods c1s c2s works sections s m k) k p d1 d2 → ⊥) → is_fit (fit_on periods c1s c2s works sections s m (placed periods c1s c2s works sections s m k) k p) ≡ false
  not_placed k p a b out = go (fit_on periods c1s c2s works sections s m (placed periods c1s c2s works sections s m k) k p) refl
    where
      go : (f : Fit) → fit_on periods c1s c2s works sections s m (placed periods c1s c2s works sections s m k) k p ≡ f → is_fit f ≡ false
      go (Ok x) e = absurd (out x.d1 x.d2 ((fit_placed k p x.d1 x.d2 a b).0 e))
      go (Err v) e = refl

  -- and on one that has no fit it cannot be
  never_placed : (k p d1 d2 : ℕ) → is_fit (fit_on periods c1s c2s works sections s m (placed periods c1s c2s works sections s m k) k p) ≡ false → Placed (placed periods c1s c2s works sections s m k) k p d1 d2 → ⊥
  never_placed k p d1 d2 e x =
      not_both (ap is_fit ((fit_placed k p d1 d2 x.0 x.1).1 x)) e

  -- a task goes to "the lowest-numbered application processor that it fits"
  pub place_exactly : (k p d1 d2 : ℕ) → (place_of periods c1s c2s works sections s m k ≡ on p d1 d2)
      ↔ (Placed (placed periods c1s c2s works sections s m k) k p d1 d2 × ((q e1 e2 : ℕ) → q < p → Placed (placed periods c1s c2s works sections s m k) k q e1 e2 → ⊥))
  unfolding place_of
  place_exactly k p d1 d2 = (
    (λ h.
        let (a, b, f, lower) = place_in (fit_on periods c1s c2s works sections s m (placed periods c1s c2s works sections s m k) k) s m p d1 d2 h in
        ((fit_placed k p d1 d2 a b).0 f, λ q e1 e2 l x. never_placed k q e1 e2 (lower q x.0 l) x)),
    λ (x, lower).
        place_at (fit_on periods c1s c2s works sections s m (placed periods c1s c2s works sections s m k) k) s m p d1 d2 x.0 x.1
        (λ q a l. not_placed k q a (omega (arith, x.1)) (λ e1 e2. lower q e1 e2 l))
        ((fit_placed k p d1 d2 x.0 x.1).1 x),
  )

  -- and it has no place exactly when it "fits none"
  pub nowhere_exactly : (k : ℕ) → s < m → (is_nowhere (place_of periods c1s c2s works sections s m k) ≡ true) ↔ ((p d1 d2 : ℕ) → Placed (placed periods c1s c2s works sections s m k) k p d1 d2 → ⊥)
  unfolding place_of
  nowhere_exactly k l = (
    (λ h. out (place_among fit s m) refl h),
    λ none. ap is_nowhere (place_none fit s m l (λ p a b. not_placed k p a (omega arith) (none p))),
  )
    where
      fit : ℕ → Fit
      fit = fit_on periods c1s c2s works sections s m (placed periods c1s c2s works sections s m k) k

      out : (x : Place) → place_among fit s m ≡ x → is_nowhere x ≡ true → (p d1 d2 : ℕ) → Placed (placed periods c1s c2s works sections s m k) k p d1 d2 → ⊥
      out (Ok y) e h p d1 d2 x = cc
      out (Err v) e h p d1 d2 x = never_placed k p d1 d2 ((place_out fit s m v.value e).0 p x.0 (omega (arith, x.1))) x

  -- these places are answered
  pub stages_answered : (n : ℕ) → stages_in (stages_of periods c1s c2s works sections s m n) ≡ stages_to periods c1s c2s works sections s m (first_nowhere periods c1s c2s works sections s m n)
  unfolding stages_of
  stages_answered n = go (ltb k n)
    where
      k : ℕ
      k = first_nowhere periods c1s c2s works sections s m n

      x : Stages
      x = stages_to periods c1s c2s works sections s m k

      go : (b : Bool) → stages_in (cond b (Err (record { task = k; value = nowhere_value periods c1s c2s works sections s m n; placed = x })) (Ok x)) ≡ x
      go true = refl
      go false = refl

  -- each task that has a place is placed so
  pub stages_placed : (n k : ℕ) → n ≤ 64 → k < first_nowhere periods c1s c2s works sections s m n →
      Placed (stages_in (stages_of periods c1s c2s works sections s m n)).processor k
      (get_or (stages_in (stages_of periods c1s c2s works sections s m n)).processor k 0)
      (get_or (stages_in (stages_of periods c1s c2s works sections s m n)).d1 k 0)
      (get_or (stages_in (stages_of periods c1s c2s works sections s m n)).d2 k 0)
  unfolding stages_to first_nowhere
  stages_placed n k few l =
      rw (stages_answered n, placed_at e k l small, get_or-filled 64 0 (λ j. d1_of (place_of periods c1s c2s works sections s m j)) e k 0 l, get_or-filled 64 0 (λ j. d2_of (place_of periods c1s c2s works sections s m j)) e k 0 l)
      (go (place_of periods c1s c2s works sections s m k) refl (first_no n (λ j. is_nowhere (place_of periods c1s c2s works sections s m j)) k l))
    where
      e : ℕ
      e = first_nowhere periods c1s c2s works sections s m n

      small : k < 64
      small = omega (arith, first-le n (λ j. is_nowhere (place_of periods c1s c2s works sections s m j)))

      go : (x : Place) → place_of periods c1s c2s works sections s m k ≡ x → is_nowhere x ≡ false → Placed (placed periods c1s c2s works sections s m e) k (processor_of x) (d1_of x) (d2_of x)
      go (Ok r) q h =
          let (a, b, x, y, z) = ((place_exactly k r.processor r.d1 r.d2).0 q).0 in
          let o : terms_on periods works (placed periods c1s c2s works sections s m e) r.processor k ≡ terms_on periods works (placed periods c1s c2s works sections s m k) r.processor k = on_same periods works _ _ r.processor k (λ i j. placed_keeps e k i j (omega arith)) in
          (a, b, rw o x, rw o y, z)
      go (Err v) q h = cc
