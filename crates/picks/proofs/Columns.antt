-- One pass over the rows keeps what each processor has to choose from.
use Prim.Native.Nat.{ℕ, ◌+◌, ◌≤◌, ◌<◌, min}
use mathlib.Core.Path.{◌≡◌, refl, sym, ◌∙◌, ap}
use mathlib.Core.Bool.{Bool, true, false, not, ◌&&◌, and-true, and-false}
use Rattle.std.specs.Prelude.{Option}
use mathlib.Core.List.{List}
use mathlib.Core.Logic.{dite}
use native.Mathlib.Omega.{arith}
use native.Mathlib.Decide.{ℕ_discrete}
use borrow.Author.Tests.{eq-eqb, ne_eqb, lt-ltb}
use lib.ListN.{length, get_or, set, replicate, length-set, length-replicate, get_or-replicate}
use lib.Seq.{get_or-set_same, get_or-set_other}
use lib.Dec.{ltb, eqb}
use Rattle.chain.specs.declared.Place.{Place}
use Rattle.chain.specs.declared.Place.TheVariants.{Idle, Waiting, Running}
use Rattle.chain.specs.declared.Job.{Job}
use Rattle.chain.specs.Job.{job_at}
use Rattle.picks.specs.Pick.{gtb, home, section_on, stage_on, waits, holds, ready}
use Rattle.picks.specs.Best.{best}
use Rattle.picks.specs.Offer.{Best, Offer, against, with_key, lowest, no_offer, nothing, Offered}
use Rattle.picks.proofs.Bests.{best_skip, best_more, lowest_skip, lowest_more}

-- a place that is not running is on no processor
off_all : (homes : List ℕ) (q i : ℕ) (p : Place) → ((j l : ℕ) → p ≡ Running j l → ⊥) → (section_on homes q i p ≡ false) × (stage_on homes q i p ≡ false)
unfolding section_on stage_on
off_all homes q i Idle rests = (refl, refl)
off_all homes q i (Waiting u j) rests = (refl, refl)
off_all homes q i (Running j l) rests = absurd (rests j l refl)

-- a test that p alone passes
abbrev Only : ℕ → (ℕ → Bool) → Type 0
Only p test = (test p ≡ true) × ((q : ℕ) → (q ≡ p → ⊥) → test q ≡ false)

-- p alone is p
only : {p : ℕ} {test : ℕ → Bool} → ((q : ℕ) → test q ≡ eqb p q) → Only p test
only {p} same = (same p ∙ eq-eqb p p refl, λ q k. same q ∙ ne_eqb p q (λ e. k (sym e)))

-- a place that runs part j on the processor p
module _ (homes : List ℕ) (i j l p : ℕ) {x : Place} (at : x ≡ Running j l) (home_is : p ≡ home homes i j) where
  -- when it is a section on q, and when a stage
  section_at : (q : ℕ) → section_on homes q i x ≡ (eqb j 1 && eqb p q)
  unfolding section_on
  section_at q = ap (λ (y : Place). section_on homes q i y) at ∙ rw home_is

  stage_at : (q : ℕ) → stage_on homes q i x ≡ (not (eqb j 1) && eqb p q)
  unfolding stage_on
  stage_at q = ap (λ (y : Place). stage_on homes q i y) at ∙ rw home_is

  -- a stage is one on its processor alone, and so is a section that passes a test of its mark
  stage_on_lem : (j ≡ 1 → ⊥) → Only p (λ q. stage_on homes q i x)
  stage_on_lem k = only (λ q. rw (stage_at q, ne_eqb j 1 k) refl)

  section_on_lem : j ≡ 1 → (b : Bool) → b ≡ true → Only p (λ q. section_on homes q i x && b)
  section_on_lem e b h = only (λ q. rw (section_at q, eq-eqb j 1 e, h) (and-true (eqb p q)))

  -- it is on no other processor
  elsewhere : (q : ℕ) → (q ≡ p → ⊥) → (section_on homes q i x ≡ false) × (stage_on homes q i x ≡ false)
  elsewhere q k = let e = ne_eqb p q (λ e. k (sym e)) in (rw (section_at q, e) (and-false (eqb j 1)), rw (stage_at q, e) (and-false (not (eqb j 1))))

-- row i against what processor q has to choose from among the first i rows
module _ (homes ranks tops : List ℕ) (js : List Job) (i q : ℕ) (o : Offer) (was : Offered homes ranks tops js i o q) where
  -- a row that is not on the processor changes nothing;
  skipped : section_on homes q i (job_at js i).place ≡ false → stage_on homes q i (job_at js i).place ≡ false → Offered homes ranks tops js (i + 1) o q
  unfolding waits holds ready
  skipped s t =
      record {
        first_is = was.first_is ∙ sym (best_skip ltb _ _ i (rw s));
        last_is = was.last_is ∙ sym (best_skip gtb _ _ i (rw s));
        stage_is = was.stage_is ∙ sym (best_skip ltb _ _ i t);
        held_is = was.held_is ∙ sym (lowest_skip _ _ i (rw s));
      }

  -- a stage there is set against the best stage,
  with_stage : section_on homes q i (job_at js i).place ≡ false → stage_on homes q i (job_at js i).place ≡ true → (b : Option Best) → b ≡ against ltb o.stage i (get_or ranks i 0)
      → Offered homes ranks tops js (i + 1) (record { first = o.first; last = o.last; stage = b; held = o.held }) q
  unfolding waits holds ready
  with_stage s t b e =
      record {
        first_is = was.first_is ∙ sym (best_skip ltb _ _ i (rw s));
        last_is = was.last_is ∙ sym (best_skip gtb _ _ i (rw s));
        stage_is = e ∙ ap (λ (c : Option Best). against ltb c i (get_or ranks i 0)) was.stage_is ∙ sym (best_more ltb _ _ i t);
        held_is = was.held_is ∙ sym (lowest_skip _ _ i (rw s));
      }

  -- a section not yet begun against the best one of these,
  with_first : section_on homes q i (job_at js i).place ≡ true → stage_on homes q i (job_at js i).place ≡ false → (job_at js i).begun ≡ 0 → (b : Option Best) → b ≡ against ltb o.first i (get_or ranks i 0)
      → Offered homes ranks tops js (i + 1) (record { first = b; last = o.last; stage = o.stage; held = o.held }) q
  unfolding waits holds ready
  with_first s t z b e =
      record {
        first_is = e ∙ ap (λ (c : Option Best). against ltb c i (get_or ranks i 0)) was.first_is ∙ sym (best_more ltb _ _ i (rw (s, z)));
        last_is = was.last_is ∙ sym (best_skip gtb _ _ i (rw (s, z)));
        stage_is = was.stage_is ∙ sym (best_skip ltb _ _ i t);
        held_is = was.held_is ∙ sym (lowest_skip _ _ i (rw (s, z)));
      }

  -- and one that is begun against the one begun last, and its ceiling counts
  with_held : section_on homes q i (job_at js i).place ≡ true → stage_on homes q i (job_at js i).place ≡ false → ((job_at js i).begun ≡ 0 → ⊥) → (b : Option Best) (h : ℕ)
      → b ≡ against gtb o.last i (job_at js i).begun → h ≡ min (get_or tops i 0) o.held
      → Offered homes ranks tops js (i + 1) (record { first = o.first; last = b; stage = o.stage; held = h }) q
  unfolding waits holds ready
  with_held s t k b h e d =
      let z = ne_eqb (job_at js i).begun 0 k in
      let a = lt-ltb 0 (job_at js i).begun (omega arith) in
      record {
        first_is = was.first_is ∙ sym (best_skip ltb _ _ i (rw (s, z)));
        last_is = e ∙ ap (λ (c : Option Best). against gtb c i (job_at js i).begun) was.last_is ∙ sym (best_more gtb _ _ i (rw (s, a)));
        stage_is = was.stage_is ∙ sym (best_skip ltb _ _ i t);
        held_is = d ∙ ap (min (get_or tops i 0)) was.held_is ∙ sym (lowest_more _ _ i (rw (s, a)));
      }

module _ (homes ranks tops : List ℕ) (js : List Job) where
  -- what each processor has to choose from among the first i rows
  abbrev pub Columns : ℕ → List Offer → Type 0
  Columns i offers = (length offers ≡ 17) × ((q : ℕ) → q < 17 → Offered homes ranks tops js i (get_or offers q no_offer) q)

  -- no row is in yet
  pub columns_none : Columns 0 (replicate 17 nothing)
  unfolding best with_key lowest
  columns_none = (length-replicate 17 nothing, λ q b. rw (get_or-replicate 17 q nothing no_offer b) (record { first_is = refl; last_is = refl; stage_is = refl; held_is = refl }))

  module _ (i : ℕ) (offers : List Offer) (c : Columns i offers) (x : Job) (job_is : job_at js i ≡ x) where
    -- a row that runs nothing
    pub columns_idle : ((j l : ℕ) → x.place ≡ Running j l → ⊥) → Columns (i + 1) offers
    columns_idle rests = (c.0, λ q b. let (s, t) = off_all homes q i x.place rests in skipped homes ranks tops js i q _ (c.1 q b) (rw job_is s) (rw job_is t))

    -- a row that runs a part on the processor p: a stage, a section not yet begun, or one that is begun
    module _ (j l p : ℕ) (at : x.place ≡ Running j l) (home_is : p ≡ home homes i j) (few : p ≤ 16) where
      place_at : (job_at js i).place ≡ Running j l
      place_at = ap (λ (y : Job). y.place) job_is ∙ at

      begun_at : (job_at js i).begun ≡ x.begun
      begun_at = ap (λ (y : Job). y.begun) job_is

      was : Offered homes ranks tops js i (get_or offers p no_offer) p
      was = c.1 p (omega arith)

      -- a store at p
      stored : (o : Offer) → Offered homes ranks tops js (i + 1) o p → Columns (i + 1) (set offers p o)
      stored o here = (
        length-set offers p o ∙ c.0,
        λ q b.
            dite (ℕ_discrete q p)
            (λ (k : q ≡ p). rw (k, get_or-set_same offers p o no_offer (omega (arith, c.0))) here)
            (λ k.
            let (s, t) = elsewhere homes i j l p place_at home_is q k in
            rw (get_or-set_other offers p q o no_offer k) (skipped homes ranks tops js i q _ (c.1 q b) s t)),
      )

      -- a stage
      pub columns_stage : (b : Option Best) → (j ≡ 1 → ⊥) → b ≡ against ltb (get_or offers p no_offer).stage i (get_or ranks i 0)
          → Columns (i + 1) (set offers p (record { first = (get_or offers p no_offer).first; last = (get_or offers p no_offer).last; stage = b; held = (get_or offers p no_offer).held }))
      columns_stage b k e =
          let d = ne_eqb j 1 k in
          stored _ (with_stage homes ranks tops js i p _ was (rw (section_at homes i j l p place_at home_is p, d)) (rw (stage_at homes i j l p place_at home_is p, d) (eq-eqb p p refl)) b e)

      -- a section not yet begun
      pub columns_first : (b : Option Best) → j ≡ 1 → x.begun ≡ 0 → b ≡ against ltb (get_or offers p no_offer).first i (get_or ranks i 0)
          → Columns (i + 1) (set offers p (record { first = b; last = (get_or offers p no_offer).last; stage = (get_or offers p no_offer).stage; held = (get_or offers p no_offer).held }))
      columns_first b k z e =
          let d = eq-eqb j 1 k in
          stored _ (with_first homes ranks tops js i p _ was (rw (section_at homes i j l p place_at home_is p, d) (eq-eqb p p refl)) (rw (stage_at homes i j l p place_at home_is p, d)) (begun_at ∙ z) b e)

      -- a section that is begun
      pub columns_held : (b : Option Best) (h : ℕ) → j ≡ 1 → (x.begun ≡ 0 → ⊥) → b ≡ against gtb (get_or offers p no_offer).last i x.begun → h ≡ min (get_or tops i 0) (get_or offers p no_offer).held
          → Columns (i + 1) (set offers p (record { first = (get_or offers p no_offer).first; last = b; stage = (get_or offers p no_offer).stage; held = h }))
      columns_held b h k z e f =
          let d = eq-eqb j 1 k in
          stored _ (with_held homes ranks tops js i p _ was (rw (section_at homes i j l p place_at home_is p, d) (eq-eqb p p refl)) (rw (stage_at homes i j l p place_at home_is p, d)) (λ y. z (sym begun_at ∙ y)) b h (rw job_is e) f)
