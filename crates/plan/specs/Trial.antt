-- "In a trial with s of them, processors 1 to s serve sections and s + 1 to m serve stages."
use Rattle.std.specs.Prelude.{ℕ, List, Result, Ok, Err, get_or}
use Rattle.lists.specs.Tab.{blank}
use Rattle.rank.specs.Order.{in_rows}
use Rattle.spread.specs.Spread.{serves_of}
use Rattle.sections.specs.Section.{sections_of, bounds_in}
use Rattle.sections.specs.declared.NoSection.{NoSection}
use Rattle.stages.specs.Stage.{stages_of}
use Rattle.stages.specs.declared.Stages.{Stages}
use Rattle.stages.specs.declared.Nowhere.{Nowhere}
use Rattle.plan.specs.declared.Tasks.{Tasks}
use Rattle.plan.specs.declared.Plan.{Plan}
use Rattle.plan.specs.declared.Mark.{Mark}
use Rattle.plan.specs.declared.Mark.TheVariants.{Section, Stage}
use Rattle.plan.specs.declared.NoPlan.{NoPlan}
use Rattle.plan.specs.Tasks.{of_resource}

-- the paper's number of a mark: 1 for a section, 2 for stages
abbrev pub mark_number : Mark → ℕ
mark_number Section = 1
mark_number Stage = 2

-- what a trial answers: the paper's number, what it names, its mark, and its value; all 0 with a plan
unfoldable pub number_of : Result Plan NoPlan → ℕ
number_of (Ok plan) = 0
number_of (Err e) = 11

unfoldable pub names_of : Result Plan NoPlan → ℕ
names_of (Ok plan) = 0
names_of (Err e) = e.row

unfoldable pub mark_of : Result Plan NoPlan → ℕ
mark_of (Ok plan) = 0
mark_of (Err e) = mark_number e.mark

unfoldable pub value_of : Result Plan NoPlan → ℕ
value_of (Ok plan) = 0
value_of (Err e) = e.value

-- a plan of zeros
abbrev pub no_plan : Plan
no_plan = record { s = 0; serves = blank 17 0; processor = blank 64 0; d1 = blank 64 0; section = blank 64 0; d2 = blank 64 0 }

-- the plan, all 0 where there is none
abbrev pub plan_in : Result Plan NoPlan → Plan
plan_in (Ok plan) = plan
plan_in (Err e) = no_plan

-- "A trial that ends without a plan hands back the task and the mark", and the value: "Refusal 11 carries it"
abbrev pub failed : ℕ → Mark → ℕ → Result Plan NoPlan
failed row mark value = Err (record { row = row; mark = mark; value = value })

-- a trial that ends with this plan
abbrev pub planned : Plan → Result Plan NoPlan
planned plan = Ok plan

-- the plan, row by row, from what the tasks have in rank order
unfoldable pub plan_by : Tasks → ℕ → List ℕ → List ℕ → Stages → Plan
plan_by t s serves sections stages =
    record {
      s = s;
      serves = serves;
      processor = in_rows t.rank t.n stages.processor;
      d1 = in_rows t.rank t.n stages.d1;
      section = in_rows t.rank t.n sections;
      d2 = in_rows t.rank t.n stages.d2;
    }

module _ (t : Tasks) (s : ℕ) where
  -- step 1: the processor of each resource, at its number
  unfoldable pub serves : List ℕ
  serves = serves_of t.weight t.heaviest s t.used

  -- the processor of each task's section
  unfoldable pub homes : List ℕ
  homes = of_resource serves t.resource t.n

  -- step 2: the bounds of the sections
  unfoldable pub sections : Result (List ℕ) NoSection
  sections = sections_of t.npp t.period t.a t.top homes t.n

  -- step 3: the processors and bounds of the stages
  unfoldable pub stages : Result Stages Nowhere
  stages = stages_of t.period t.c1 t.c2 t.work (bounds_in sections) s t.m t.n

  -- how it ends: "The first missing one ends the trial, mark 1." "The first that fits none ends the trial, mark 2."
  abbrev pub ended : Result (List ℕ) NoSection → Result Stages Nowhere → Result Plan NoPlan
  ended (Err e) placed = failed (get_or t.row e.task 0) Section e.value
  ended (Ok bounds) (Err e) = failed (get_or t.row e.task 0) Stage e.value
  ended (Ok bounds) (Ok placed) = planned (plan_by t s serves bounds placed)

  -- the trial
  unfoldable pub trial_of : Result Plan NoPlan
  trial_of = ended sections stages
