-- The picked rows run together: each row is run at most once, and at the end all that a processor picks have run.
use Prim.Native.Nat.{ℕ, suc, ◌+◌, ◌*◌, ◌≤◌, ◌<◌}
use mathlib.Core.Path.{◌≡◌, refl, sym, ◌∙◌, ap}
use mathlib.Core.List.{List}
use mathlib.Core.Bool.{Bool, true, false}
use native.Mathlib.Omega.{arith}
use borrow.Author.Count.{below_more}
use borrow.Author.Tests.{eq-eqb, ne_eqb, eqb-true, eqb-false}
use lib.ListN.{get_or, length, set}
use lib.Dec.{eqb}
use lib.Seq.{sets, get_or-set_same, get_or-set_other}
use Rattle.lists.specs.Tab.{tab}
use Rattle.chain.specs.declared.Place.{Place}
use Rattle.chain.specs.declared.Place.TheVariants.{Idle, Waiting, Running}
use Rattle.chain.specs.declared.Job.{Job}
use Rattle.chain.specs.Job.{no_job, job_at}
use Rattle.chain.specs.Release.{due_of}
use Rattle.chain.specs.Unit.{push_at, push}
use Rattle.chain.specs.Good.{GoodJob, Lasts, part_of}
use Rattle.chain.proofs.Keeps.{good_unit}
use Rattle.chain.proofs.Counts.{lens_unit}
use Rattle.chain.proofs.Pushed.{good_push, ended_push, ran_push, lens_push}
use Rattle.jobs.specs.Numbers.{numbers_of, job_in, jobs_in}
use Rattle.jobs.proofs.Laws.{length-jobs, jobs_at_lem, lens_in, jobs_put, jobs_are}
use Rattle.picks.specs.Pick.{home}
use Rattle.machine.specs.Tick.{serve_at, serve}
use Rattle.machine.proofs.Keep.{serve_cases}
use Rattle.chain.proofs.Places.{part_small}
use Rattle.stretch.specs.Push.{Ready, Picks, push_row_at, push_row}

-- a job that has k ticks left of what it runs can run k units, and then one more
module _ {t k : ℕ} {x y : Job} (r : Ready t k x) (e : y ≡ x) where
  -- it can be pushed,
  pub push_fits : t + k < 1000000 → (t ≤ 1000000) × (y.ran + k < 4294967296) × Lasts k y.place
  push_fits h = rw e (omega arith, omega (arith, r.ran), r.lasts)

  module _ {z : Job} (f : z ≡ push t k y) where
    -- and is good then, with counts that fit 32 bits
    pub push_good : GoodJob z
    push_good = rw (f, e) (good_push t k x r.good)

    pub push_ended : z.ended < 4294967295
    push_ended = rw (f, e) (omega (arith, ended_push t k x, r.ended))

    pub push_ran : t + k < 1000000 → z.ran < 4294967295
    push_ran h = rw (f, e) (omega (arith, ran_push t k x, r.ran))

-- row i's job, read, pushed and served
module _ (picked bounds homes flat : List ℕ) (i : ℕ) {t k : ℕ} {x y z : Job} (r : Ready t k (job_in flat i)) (e : x ≡ job_in flat i) (f : y ≡ push t k x) (g : z ≡ serve picked bounds homes (t + k) i y) where
  -- what it comes to
  served_is : z ≡ serve picked bounds homes (t + k) i (push t k (job_in flat i))
  served_is = rw (sym e, sym f) g

  -- it is good,
  pub good_served : GoodJob z
  good_served =
      let w = push_good r e f in
      rw g (serve_cases GoodJob picked bounds homes (t + k) i y w (λ j l p. good_unit bounds i (t + k) y j l w.arrived (part_small y.place j l w.part p)))

  -- with three lengths
  lens_served : length z.lens ≡ 3
  lens_served =
      let three : length y.lens ≡ 3 = rw (f, e) (ap length (lens_push t k (job_in flat i)) ∙ lens_in flat i) in
      rw g (serve_cases (λ y. length y.lens ≡ 3) picked bounds homes (t + k) i y three (λ j l p. ap length (lens_unit bounds i (t + k) y j l) ∙ three))

  -- it stands in the row's numbers once it is put there
  module _ {next : List ℕ} (h : i < 64) (l : length flat ≡ 576) (n : next ≡ sets flat (9 * i) (numbers_of z)) where
    -- among all jobs
    put_served : jobs_in next ≡ set (jobs_in flat) i z
    put_served = rw n (jobs_put flat i z h l good_served.part lens_served)

    pub jobs_served : jobs_in next ≡ set (jobs_in flat) i (serve picked bounds homes (t + k) i (push t k (job_in flat i)))
    jobs_served = put_served ∙ ap (set (jobs_in flat) i) served_is

    pub job_served : z ≡ job_in next i
    job_served = sym (get_or-set_same (jobs_in flat) i z no_job (omega (arith, length-jobs flat))) ∙ ap (λ (js : List Job). job_at js i) (sym put_served) ∙ jobs_at_lem next i h

-- row i's job when the picked rows have run k units from tick t on, and the unit of tick t + k
abbrev after : List ℕ → List ℕ → List ℕ → ℕ → ℕ → ℕ → Job → Job
after picked bounds homes t k i x = serve picked bounds homes (t + k) i (push_row picked homes t k i x)

-- the rows that the first q processors pick have run, and the others, and their releases, are as at the start
pub record Ran (picked bounds homes : List ℕ) (t k : ℕ) (was old : List ℕ) (q : ℕ) (flat due : List ℕ) : Type 0 where
  pub left : (i : ℕ) → i < 64 → ((p : ℕ) → p < q → get_or picked p 0 ≡ suc i → ⊥) → (job_in flat i ≡ job_in was i) × (get_or due i 0 ≡ get_or old i 0)
  pub run : (p : ℕ) → p < q → (i : ℕ) → i < 64 → get_or picked p 0 ≡ suc i →
      (job_in flat i ≡ after picked bounds homes t k i (job_in was i)) × (get_or due i 0 ≡ due_of bounds i (after picked bounds homes t k i (job_in was i)))

module _ (picked bounds homes : List ℕ) (t k : ℕ) where
  -- a row that the processor of its part does not pick stays as it is,
  after_none : (i : ℕ) (x : Job) → ((j l : ℕ) → x.place ≡ Running j l → get_or picked (home homes i j) 0 ≡ suc i → ⊥) → after picked bounds homes t k i x ≡ x
  unfolding push_row_at serve_at
  after_none i x n = let (a, b) = go x.place refl in ap (serve picked bounds homes (t + k) i) a ∙ b
    where
      go : (p : Place) → x.place ≡ p → (push_row_at picked homes t k i x p ≡ x) × (serve_at picked bounds homes (t + k) i x p ≡ x)
      go Idle e = (refl, refl)
      go (Waiting u j) e = (refl, refl)
      go (Running j l) e =
          let f = ne_eqb (get_or picked (home homes i j) 0) (suc i) (n j l e) in
          (rw f, rw f)

  -- and one that it picks is pushed
  pub push_picked : (q i j l : ℕ) (x : Job) → x.place ≡ Running j l → home homes i j ≡ q → get_or picked q 0 ≡ suc i → push t k x ≡ push_row picked homes t k i x
  unfolding push_row_at push_at
  push_picked q i j l x e h f =
      let g : get_or picked (home homes i j) 0 ≡ suc i = rw h f in
      ap (push_at t k x) e ∙ sym (ap (push_row_at picked homes t k i x) e ∙ rw (eq-eqb (get_or picked (home homes i j) 0) (suc i) g))

module _ (picked homes : List ℕ) (t k : ℕ) (was : List ℕ) (picks : Picks picked homes t k (jobs_in was)) where
  -- the place of a row that a processor picks
  place_in : (q i : ℕ) (l : q < 17) (e : get_or picked q 0 ≡ suc i) → (job_in was i).place ≡ Running (picks q i l e).1.part (picks q i l e).1.left
  place_in q i l e = ap (λ (x : Job). x.place) (sym (jobs_at_lem was i (picks q i l e).0)) ∙ (picks q i l e).1.place_is

  -- a row is picked by the processor of its part only,
  home_of : (q i : ℕ) → q < 17 → get_or picked q 0 ≡ suc i → home homes i (part_of (job_in was i).place) ≡ q
  home_of q i l e = ap (λ (x : Place). home homes i (part_of x)) (place_in q i l e) ∙ (picks q i l e).1.home_is

  -- so it is picked once
  fresh : (q i : ℕ) → q < 17 → get_or picked q 0 ≡ suc i → (p : ℕ) → p < q → get_or picked p 0 ≡ suc i → ⊥
  fresh q i l e p b f = absurd (omega (arith, home_of q i l e, home_of p i (omega arith) f))

-- before the first processor none has run
pub ran_start : (picked bounds homes : List ℕ) (t k : ℕ) (was old : List ℕ) → Ran picked bounds homes t k was old 0 was old
ran_start picked bounds homes t k was old = record { left = λ i h n. (refl, refl); run = λ p l. absurd (omega arith) }

module _ {picked bounds homes : List ℕ} {t k : ℕ} {was old : List ℕ} {q : ℕ} {flat due : List ℕ} (r : Ran picked bounds homes t k was old q flat due) where
  -- one processor more, which picks nothing
  pub ran_none : get_or picked q 0 ≤ 0 → Ran picked bounds homes t k was old (q + 1) flat due
  ran_none z = record { left = λ i h n. r.left i h (λ p l. n p (omega arith)); run = below_more _ q r.run (λ i h e. absurd (omega arith)) }

  -- or which picks a row that has not run yet
  module _ (picks : Picks picked homes t k (jobs_in was)) (i : ℕ) (l : q < 17) (e : get_or picked q 0 ≡ suc i) where
    -- the row has not run yet,
    once : (p : ℕ) → p < q → get_or picked p 0 ≡ suc i → ⊥
    once = fresh picked homes t k was picks q i l e

    -- so its job is as at the start,
    same_here : job_in flat i ≡ job_in was i
    same_here = (r.left i (picks q i l e).0 once).0

    -- and can run
    pub ready_next : Ready t k (job_in flat i)
    ready_next =
        let p = picks q i l e in
        rw (same_here, sym (jobs_at_lem was i p.0)) p.1.ready

    module _ (next : List ℕ) {due' : List ℕ} (b : length due ≡ 64) (f : jobs_in next ≡ set (jobs_in flat) i (serve picked bounds homes (t + k) i (push t k (job_in flat i)))) (g : due' ≡ set due i (due_of bounds i (job_in next i))) where
      -- the other rows stay,
      others : (m : ℕ) → m < 64 → (m ≡ i → ⊥) → (x : Job) (d : ℕ) → (job_in flat m ≡ x) × (get_or due m 0 ≡ d) → (job_in next m ≡ x) × (get_or due' m 0 ≡ d)
      others m h n x d (c, o) = (
        sym (jobs_at_lem next m h) ∙ ap (λ (js : List Job). job_at js m) f ∙ get_or-set_other (jobs_in flat) i m _ no_job n ∙ jobs_at_lem flat m h ∙ c,
        rw g (get_or-set_other due i m _ 0 n ∙ o),
      )

      -- and this one has run
      job_here : job_in next i ≡ after picked bounds homes t k i (job_in was i)
      job_here =
          let p = picks q i l e in
          sym (jobs_at_lem next i p.0)
          ∙ ap (λ (js : List Job). job_at js i) f
          ∙ get_or-set_same (jobs_in flat) i _ no_job (omega (arith, length-jobs flat, p.0))
          ∙ ap (λ (x : Job). serve picked bounds homes (t + k) i (push t k x)) same_here
          ∙ ap (serve picked bounds homes (t + k) i) (push_picked picked bounds homes t k q i _ _ (job_in was i) (place_in picked homes t k was picks q i l e) p.1.home_is e)

      -- and its next release is known
      here : (job_in next i ≡ after picked bounds homes t k i (job_in was i)) × (get_or due' i 0 ≡ due_of bounds i (after picked bounds homes t k i (job_in was i)))
      here = (job_here, rw g (get_or-set_same due i _ 0 (omega (arith, b, (picks q i l e).0)) ∙ ap (due_of bounds i) job_here))

      -- so one processor more has run its row
      pub ran_more : Ran picked bounds homes t k was old (q + 1) next due'
      ran_more =
          record {
            left = λ m h n. others m h (λ d. n q (omega arith) (e ∙ ap suc (sym d))) _ _ (r.left m h (λ p o. n p (omega arith)));
            run =
                below_more _ q
                (λ p o m h d. others m h (λ c. once p o (d ∙ ap suc c)) _ _ (r.run p o m h d))
                (λ m h d.
                let c : m ≡ i = omega (arith, e, d) in
                rw c here);
          }

-- when all processors are passed, each row has run that one picks, and the others stay
module _ {picked bounds homes : List ℕ} {t k : ℕ} {was old flat due : List ℕ} (r : Ran picked bounds homes t k was old 17 flat due) (picks : Picks picked homes t k (jobs_in was)) (few : (q : ℕ) → get_or homes q 0 ≤ 16) where
  -- row by row
  ran_row : (i : ℕ) → i < 64 → (job_in flat i ≡ after picked bounds homes t k i (job_in was i)) × (get_or old i 0 ≡ due_of bounds i (job_in was i) → get_or due i 0 ≡ due_of bounds i (job_in flat i))
  ran_row i l = go (eqb (get_or picked h 0) (suc i)) refl
    where
      h : ℕ
      h = home homes i (part_of (job_in was i).place)

      go : (b : Bool) → eqb (get_or picked h 0) (suc i) ≡ b → (job_in flat i ≡ after picked bounds homes t k i (job_in was i)) × (get_or old i 0 ≡ due_of bounds i (job_in was i) → get_or due i 0 ≡ due_of bounds i (job_in flat i))
      go true e =
          let (a, d) = r.run h (omega (arith, few (3 * i + part_of (job_in was i).place))) i l (eqb-true (get_or picked h 0) (suc i) e) in
          (a, λ o. d ∙ ap (due_of bounds i) (sym a))
      go false e =
          let n = eqb-false (get_or picked h 0) (suc i) e in
          let (a, d) = r.left i l (λ p b f. n (ap (λ (q : ℕ). get_or picked q 0) (home_of picked homes t k was picks p i b f) ∙ f)) in
          let same = after_none picked bounds homes t k i (job_in was i) (λ j m f c. n (ap (λ (x : Place). get_or picked (home homes i (part_of x)) 0) f ∙ c)) in
          (a ∙ sym same, λ o. d ∙ o ∙ ap (due_of bounds i) (sym a))

  -- the jobs,
  pub ran_jobs : jobs_in flat ≡ tab 64 (λ i. after picked bounds homes t k i (job_in was i))
  ran_jobs = jobs_are (jobs_in flat) _ (length-jobs flat) (λ i l. jobs_at_lem flat i l ∙ (ran_row i l).0)

  -- and their next releases
  pub ran_due : (i : ℕ) → i < 64 → get_or old i 0 ≡ due_of bounds i (job_in was i) → get_or due i 0 ≡ due_of bounds i (job_in flat i)
  ran_due i l = (ran_row i l).1
