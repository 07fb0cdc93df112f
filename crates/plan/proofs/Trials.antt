-- The cases of a trial, and of trial after trial.
use Prim.Native.Nat.{ℕ, suc, ◌+◌, ◌-◌, ◌≤◌, ◌<◌, min}
use mathlib.Core.Path.{◌≡◌, refl, sym, ◌∙◌, ap}
use mathlib.Core.List.{List}
use mathlib.Core.Bool.{true, false}
use mathlib.Core.Logic.{dite}
use native.Mathlib.Omega.{arith}
use native.Mathlib.Decide.{dec_lt}
use native.Mathlib.Nat.{min-eq_left, min-eq_right, min-le_left, min-le_right}
use borrow.Author.Tests.{lt-ltb, le-ltb}
use lib.ListN.{get_or}
use Rattle.std.specs.Prelude.{Result, Ok, Err, is_ok}
use Rattle.lists.proofs.Tests.{not_both}
use Rattle.lists.proofs.First.{first_is, first_none}
use Rattle.spread.proofs.Spread.{serves-le}
use Rattle.sections.specs.Good.{GoodSections}
use Rattle.sections.specs.declared.NoSection.{NoSection}
use Rattle.sections.specs.Section.{first_missing, missing_value, bounds_found, sections_of, bounds_in}
use Rattle.sections.proofs.Found.{section_least}
use Rattle.stages.specs.Good.{GoodStages}
use Rattle.stages.specs.declared.Stages.{Stages}
use Rattle.stages.specs.declared.Nowhere.{Nowhere}
use Rattle.stages.specs.Stage.{first_nowhere, nowhere_value, stages_of, stages_in}
use Rattle.plan.specs.declared.Tasks.{Tasks}
use Rattle.plan.specs.declared.NoPlan.{NoPlan}
use Rattle.plan.specs.declared.Mark.{Mark}
use Rattle.plan.specs.declared.Mark.TheVariants.{Section, Stage}
use Rattle.plan.specs.Tasks.{of_resource}
use Rattle.plan.specs.Trial.{no_plan, plan_in, ended, failed, planned, plan_by, serves, homes, sections, stages, trial_of}
use Rattle.plan.specs.Planning.{is_planned, first_trial, last_trial, failures, planning_of}
use Rattle.plan.specs.Good.{GoodTasks}
use Rattle.lists.proofs.Tab.{get_or-filled}

module _ (t : Tasks) (s : ℕ) where
  -- the first task without a section bound, and the bounds
  abbrev pub unbound : ℕ
  unbound = first_missing t.npp t.period t.a t.top (homes t s) t.n

  abbrev pub bounds : List ℕ
  bounds = bounds_in (sections t s)

  -- the first task without a place, and the places
  abbrev pub stuck : ℕ
  stuck = first_nowhere t.period t.c1 t.c2 t.work bounds s t.m t.n

  abbrev pub places : Stages
  places = stages_in (stages t s)

-- what a trial hands back where a task lacks a bound, and where one lacks a place
abbrev pub lacks_bound : Tasks → NoSection → NoPlan
lacks_bound t e = record { row = get_or t.row e.task 0; mark = Section; value = e.value }

abbrev pub lacks_place : Tasks → Nowhere → NoPlan
lacks_place t e = record { row = get_or t.row e.task 0; mark = Stage; value = e.value }

module _ (t : Tasks) (g : GoodTasks t) where
  -- where no resource has a processor above 16, the columns of sections are good
  pub sections_good : (processors : List ℕ) → ((r : ℕ) → get_or processors r 0 ≤ 16) → GoodSections t.period t.a (of_resource processors t.resource t.n) t.n
  sections_good processors h =
      record {
        few = g.few.1;
        terms = λ k l. record { period = g.periods k l; short = omega (arith, g.sum k l) };
        served = λ k l. omega (arith, get_or-filled 64 0 (λ k. get_or processors (get_or t.resource k 0) 0) t.n k 0 l, h (get_or t.resource k 0));
      }

  -- where each section bound is at most the period, the columns of stages are good
  pub stages_good : (bs : List ℕ) (s : ℕ) → s < t.m → ((k : ℕ) → k < t.n → get_or bs k 0 ≤ get_or t.period k 0) → GoodStages t.period t.c1 t.c2 t.work bs t.n s t.m
  stages_good bs s l h =
      record {
        few = g.few.1;
        processors = (l, g.processors.1);
        period = g.periods;
        work = λ k b. (g.works k b, omega (arith, g.works k b, g.sum k b));
        section = h;
      }

  module _ (s : ℕ) where
    -- no resource has a processor above 16
    pub serves_small : s < t.m → (0 < t.used → 1 ≤ s) → (r : ℕ) → get_or (serves t s) r 0 ≤ 16
    unfolding serves
    serves_small l h r = omega (arith, serves-le t.weight t.heaviest s t.used h r, g.processors.1)

    -- where no bound is missing each is at most the period
    pub bounds_short : t.n ≤ unbound t s → (k : ℕ) → k < t.n → get_or (bounds t s) k 0 ≤ get_or t.period k 0
    unfolding sections
    bounds_short h k l = (section_least t.npp t.period t.a t.top (homes t s) t.n k (omega arith)).1

module _ (t : Tasks) (s : ℕ) where
  -- which way the sections go
  sections_missing : unbound t s < t.n → sections t s ≡ Err (record { task = unbound t s; value = missing_value t.npp t.period t.a t.top (homes t s) t.n; bound = bounds_found t.npp t.period t.a t.top (homes t s) t.n })
  unfolding sections sections_of
  sections_missing l = rw (lt-ltb (unbound t s) t.n l)

  sections_all : t.n ≤ unbound t s → sections t s ≡ Ok (bounds t s)
  unfolding sections sections_of
  sections_all h = rw (le-ltb (unbound t s) t.n h)

  -- and which way the stages do
  stages_nowhere : stuck t s < t.n → stages t s ≡ Err (record { task = stuck t s; value = nowhere_value t.period t.c1 t.c2 t.work (bounds t s) s t.m t.n; placed = places t s })
  unfolding stages stages_of
  stages_nowhere l = rw (lt-ltb (stuck t s) t.n l)

  stages_all : t.n ≤ stuck t s → stages t s ≡ Ok (places t s)
  unfolding stages stages_of
  stages_all h = rw (le-ltb (stuck t s) t.n h)

  -- mark 1: the first missing bound ends the trial
  pub trial_missing : unbound t s < t.n → trial_of t s ≡ failed (get_or t.row (unbound t s) 0) Section (missing_value t.npp t.period t.a t.top (homes t s) t.n)
  unfolding trial_of
  trial_missing l = ap (λ x. ended t s x (stages t s)) (sections_missing l)

  -- mark 2: the first that fits none does
  pub trial_nowhere : t.n ≤ unbound t s → stuck t s < t.n → trial_of t s ≡ failed (get_or t.row (stuck t s) 0) Stage (nowhere_value t.period t.c1 t.c2 t.work (bounds t s) s t.m t.n)
  unfolding trial_of
  trial_nowhere h l = ap (λ x. ended t s x (stages t s)) (sections_all h) ∙ ap (ended t s (Ok (bounds t s))) (stages_nowhere l)

  -- and otherwise there is a plan
  pub trial_planned : t.n ≤ unbound t s → t.n ≤ stuck t s → trial_of t s ≡ planned (plan_by t s (serves t s) (bounds t s) (places t s))
  unfolding trial_of
  trial_planned h k = ap (λ x. ended t s x (stages t s)) (sections_all h) ∙ ap (ended t s (Ok (bounds t s))) (stages_all k)

  -- a trial that fails hands back the row, the mark and the value, and a plan of zeros
  pub trial_failed : (row : ℕ) (mark : Mark) (value : ℕ) → trial_of t s ≡ Err (record { row = row; mark = mark; value = value }) → (trial_of t s ≡ failed row mark value) × (plan_in (trial_of t s) ≡ no_plan)
  trial_failed row mark value e = (e, ap plan_in e)

  -- a trial that succeeds has a bound for each section and a place for each task
  pub trial_whole : is_planned (trial_of t s) ≡ true → (t.n ≤ unbound t s) × (t.n ≤ stuck t s)
  trial_whole e =
      dite (dec_lt (unbound t s) t.n) (λ l. absurd (not_both e (ap is_planned (trial_missing l))))
      (λ h. dite (dec_lt (stuck t s) t.n) (λ l. absurd (not_both e (ap is_planned (trial_nowhere (omega arith) l))))
      (λ k. (omega arith, omega arith)))

  -- a missing bound is that of one of the tasks, and where none is missing all are there
  pub missing_task : (e : NoSection) → sections t s ≡ Err e → e.task < t.n
  missing_task e q =
      dite (dec_lt (unbound t s) t.n)
      (λ l.
      let x = sym q ∙ sections_missing l in
      let y : e.task ≡ unbound t s = cc in
      omega arith)
      (λ h. absurd (not_both (ap is_ok (sections_all (omega arith))) (ap is_ok q)))

  pub none_missing : (bs : List ℕ) → sections t s ≡ Ok bs → t.n ≤ unbound t s
  none_missing bs q =
      dite (dec_lt (unbound t s) t.n)
      (λ l. absurd (not_both (ap is_ok q) (ap is_ok (sections_missing l))))
      (λ h. omega arith)

  -- so does one without a place
  pub stuck_task : (e : Nowhere) → stages t s ≡ Err e → e.task < t.n
  stuck_task e q =
      dite (dec_lt (stuck t s) t.n)
      (λ l.
      let x = sym q ∙ stages_nowhere l in
      let y : e.task ≡ stuck t s = cc in
      omega arith)
      (λ h. absurd (not_both (ap is_ok (stages_all (omega arith))) (ap is_ok q)))

  -- the bounds that are found are at most the periods
  pub found_short : GoodTasks t → (bs : List ℕ) → sections t s ≡ Ok bs → (k : ℕ) → k < t.n → get_or bs k 0 ≤ get_or t.period k 0
  found_short g bs q k l = rw (ap bounds_in q) at (bounds_short t g s (none_missing bs q) k l)

  -- and the stages are placed beside these
  pub stages_at : (bs : List ℕ) → sections t s ≡ Ok bs → stages t s ≡ stages_of t.period t.c1 t.c2 t.work bs s t.m t.n
  unfolding stages
  stages_at bs q = rw q

  -- how a trial ends where its steps give this
  pub trial_at : (x : Result (List ℕ) NoSection) (y : Result Stages Nowhere) → sections t s ≡ x → stages t s ≡ y → trial_of t s ≡ ended t s x y
  unfolding trial_of
  trial_at x y p q = rw (p, q)

module _ (t : Tasks) where
  -- where a resource is used, no trial is without a synchronization processor
  pub first_one : 0 < t.used → 1 ≤ first_trial t
  first_one l =
      let e : min 1 t.used ≡ 1 = min-eq_left l in
      omega arith

  -- there is a first trial, and it is not behind the last
  pub trials_some : 2 ≤ t.m → first_trial t ≤ last_trial t
  trials_some h =
      dite (dec_lt t.used (t.m - 1))
      (λ l.
      let e : min (t.m - 1) t.used ≡ t.used = min-eq_right (omega arith) in
      omega (arith, min-le_right 1 t.used))
      (λ l.
      let e : min (t.m - 1) t.used ≡ t.m - 1 = min-eq_left (omega arith) in
      omega (arith, min-le_left 1 t.used))

  -- the last trial leaves a processor for stages
  pub last-lt : 2 ≤ t.m → last_trial t < t.m
  last-lt h = omega (arith, min-le_left (t.m - 1) t.used)

  -- no trial before s succeeds
  abbrev pub NoneBefore : ℕ → Type 0
  NoneBefore s = (q : ℕ) → first_trial t ≤ q → q < s → is_planned (trial_of t q) ≡ false

  -- the first trial that succeeds is the answer
  pub planning_found : (s : ℕ) → first_trial t ≤ s → s ≤ last_trial t → NoneBefore s → is_planned (trial_of t s) ≡ true → planning_of t ≡ trial_of t s
  unfolding planning_of failures
  planning_found s a b h e =
      let z : first_trial t + (s - first_trial t) ≡ s = omega arith in
      let f : failures t ≡ s - first_trial t = first_is (suc (last_trial t - first_trial t)) (λ i. is_planned (trial_of t (first_trial t + i))) (s - first_trial t) (omega arith) (λ j l. h (first_trial t + j) (omega arith) (omega arith)) (rw z e) in
      let q : min (s - first_trial t) (last_trial t - first_trial t) ≡ s - first_trial t = min-eq_left (omega arith) in
      rw (f, q, z)

  -- where none succeeds, the last one's is
  pub planning_none : first_trial t ≤ last_trial t → NoneBefore (last_trial t + 1) → planning_of t ≡ trial_of t (last_trial t)
  unfolding planning_of failures
  planning_none a h =
      let z : first_trial t + (last_trial t - first_trial t) ≡ last_trial t = omega arith in
      let f : failures t ≡ suc (last_trial t - first_trial t) = first_none (suc (last_trial t - first_trial t)) (λ i. is_planned (trial_of t (first_trial t + i))) (λ j l. h (first_trial t + j) (omega arith) (omega arith)) in
      let q : min (suc (last_trial t - first_trial t)) (last_trial t - first_trial t) ≡ last_trial t - first_trial t = min-eq_right (omega arith) in
      rw (f, q, z)

  -- one trial more fails
  pub none_more : (s : ℕ) → NoneBefore s → is_planned (trial_of t s) ≡ false → NoneBefore (s + 1)
  none_more s h e q a b = dite (dec_lt q s) (λ l. h q a l) (λ l. let z : q ≡ s = omega arith in rw z e)

  -- what is planned is one of the trials
  pub planning_trial : 2 ≤ t.m → (s : ℕ) × (first_trial t ≤ s) × (s ≤ last_trial t) × (planning_of t ≡ trial_of t s)
  unfolding planning_of
  planning_trial h =
      let a : first_trial t ≤ last_trial t = trials_some h in
      let b : min (failures t) (last_trial t - first_trial t) ≤ last_trial t - first_trial t = min-le_right (failures t) (last_trial t - first_trial t) in
      (first_trial t + min (failures t) (last_trial t - first_trial t), omega arith, omega arith, refl)
