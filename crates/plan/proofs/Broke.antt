-- The value of refusal 11: what it is under each mark, and that it fits into 32 bits for every table.
use Prim.Native.Nat.{ℕ, ◌+◌, ◌≤◌, ◌<◌, zero-le}
use mathlib.Core.Path.{◌≡◌, sym, ◌∙◌, ap}
use mathlib.Core.Logic.{dite}
use native.Mathlib.Omega.{arith}
use native.Mathlib.Decide.{dec_lt}
use lib.ListN.{get_or}
use Rattle.table.specs.declared.Table.{Table}
use Rattle.table.specs.Good.{GoodTable}
use Rattle.bounds.specs.Sequence.{Breaks}
use Rattle.sections.specs.Section.{missing_value}
use Rattle.sections.proofs.Broke.{lacking_terms, lacking_b, missing_breaks, missing_small}
use Rattle.stages.specs.Stage.{nowhere_value}
use Rattle.stages.proofs.Broke.{SmallestStuck, nowhere_smallest, nowhere_small}
use Rattle.plan.specs.declared.Tasks.{Tasks}
use Rattle.plan.specs.declared.Mark.TheVariants.{Section, Stage}
use Rattle.plan.specs.Tasks.{tasks_of}
use Rattle.plan.specs.Trial.{mark_of, value_of, failed, serves, homes, trial_of}
use Rattle.plan.specs.Planning.{planned_of}
use Rattle.plan.specs.Good.{GoodTasks}
use Rattle.plan.proofs.Ordered.{tasks_good}
use Rattle.plan.proofs.Trials.{unbound, bounds, stuck, sections_good, stages_good, serves_small, bounds_short, trial_missing, trial_nowhere, trial_planned, first_one, last-lt, planning_trial}

module _ (t : Tasks) (s : ℕ) where
  -- v is the first member above T of the sequence that starts with its A + B
  abbrev pub BreaksSection : ℕ → Type 0
  BreaksSection v =
      Breaks (lacking_terms t.npp t.period t.a t.top (homes t s) t.n)
      (get_or t.a (unbound t s) 0 + lacking_b t.npp t.period t.a t.top (homes t s) t.n)
      (get_or t.period (unbound t s) 0)
      v

  -- v is the smallest of the values that keep the first task without a place from fitting an application processor
  abbrev pub SmallestOver : ℕ → Type 0
  SmallestOver v = SmallestStuck t.period t.c1 t.c2 t.work (bounds t s) s t.m t.n v

  -- a trial ends in one of three ways
  ended : {A : Type 0} → (unbound t s < t.n → A) → (t.n ≤ unbound t s → stuck t s < t.n → A) → (t.n ≤ unbound t s → t.n ≤ stuck t s → A) → A
  ended missing nowhere whole =
      dite (dec_lt (unbound t s) t.n) missing
      (λ h. dite (dec_lt (stuck t s) t.n) (nowhere (omega arith)) (λ k. whole (omega arith) (omega arith)))

  -- "for mark 1 that value"
  pub mark_1 : (row v : ℕ) → trial_of t s ≡ failed row Section v → BreaksSection v
  unfolding mark_of value_of
  mark_1 row v e =
      ended
      (λ l.
      let x : missing_value t.npp t.period t.a t.top (homes t s) t.n ≡ v = ap value_of (sym (trial_missing t s l) ∙ e) in
      rw x at (missing_breaks t.npp t.period t.a t.top (homes t s) t.n l))
      (λ h l. absurd (omega (arith, ap mark_of (sym (trial_nowhere t s h l) ∙ e))))
      (λ h k. absurd (omega (arith, ap mark_of (sym (trial_planned t s h k) ∙ e))))

  -- "for mark 2 the smallest, over the application processors, of the value that broke D1, else D2, else the sum D1 + S + D2"
  pub mark_2 : s < t.m → (row v : ℕ) → trial_of t s ≡ failed row Stage v → SmallestOver v
  unfolding mark_of value_of
  mark_2 some row v e =
      ended
      (λ l. absurd (omega (arith, ap mark_of (sym (trial_missing t s l) ∙ e))))
      (λ h l.
      let x : nowhere_value t.period t.c1 t.c2 t.work (bounds t s) s t.m t.n ≡ v = ap value_of (sym (trial_nowhere t s h l) ∙ e) in
      rw x at (nowhere_smallest t.period t.c1 t.c2 t.work (bounds t s) s t.m t.n some l))
      (λ h k. absurd (omega (arith, ap mark_of (sym (trial_planned t s h k) ∙ e))))

  -- the value of a trial of good tasks is at most 130,000,000
  trial_small : GoodTasks t → s < t.m → (0 < t.used → 1 ≤ s) → value_of (trial_of t s) ≤ 130000000
  unfolding value_of homes
  trial_small g l h =
      ended
      (λ a. rw (trial_missing t s a) (missing_small t.npp t.period t.a t.top (homes t s) t.n (sections_good t g (serves t s) (serves_small t g s l h))))
      (λ a b. rw (trial_nowhere t s a b) (nowhere_small t.period t.c1 t.c2 t.work (bounds t s) s t.m t.n (stages_good t g (bounds t s) s l (bounds_short t g s a))))
      (λ a b. rw (trial_planned t s a b) zero-le)

-- "It fits 32 bits for every table"
pub value_fits : (t : Table) → GoodTable t → value_of (planned_of t) < 4294967296
unfolding planned_of
value_fits t g =
    let h = tasks_good t g in
    let (s, a, b, e) = planning_trial (tasks_of t) h.processors.0 in
    rw e (omega (arith, trial_small (tasks_of t) s h (omega (arith, last-lt (tasks_of t) h.processors.0)) (λ l. omega (arith, first_one (tasks_of t) l))))
