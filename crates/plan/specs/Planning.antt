-- "The first [trial] that succeeds is the plan."
use Rattle.std.specs.Prelude.{ℕ, suc, ◌+◌, ◌-◌, min, Bool, true, false, Result, Ok, Err}
use Rattle.lists.specs.First.{first}
use Rattle.table.specs.declared.Table.{Table}
use Rattle.plan.specs.declared.Tasks.{Tasks}
use Rattle.plan.specs.declared.Plan.{Plan}
use Rattle.plan.specs.declared.NoPlan.{NoPlan}
use Rattle.plan.specs.Tasks.{tasks_of}
use Rattle.plan.specs.Trial.{trial_of}

-- whether there is a plan
abbrev pub is_planned : Result Plan NoPlan → Bool
is_planned (Ok plan) = true
is_planned (Err e) = false

module _ (t : Tasks) where
  -- "If u is 0 there is one trial, with 0 synchronization processors. Otherwise trials run with 1, 2, .. up to the smaller of m − 1 and u."
  abbrev pub first_trial : ℕ
  first_trial = min 1 t.used

  abbrev pub last_trial : ℕ
  last_trial = min (t.m - 1) t.used

  -- how many trials fail before one succeeds; all of them, if none does
  unfoldable pub failures : ℕ
  failures = first (suc (last_trial - first_trial)) (λ i. is_planned (trial_of t (first_trial + i)))

  -- the first trial that succeeds; the last one, if none does
  unfoldable pub planning_of : Result Plan NoPlan
  planning_of = trial_of t (first_trial + min failures (last_trial - first_trial))

-- what comes of planning a table
unfoldable pub planned_of : Table → Result Plan NoPlan
planned_of t = planning_of (tasks_of t)
