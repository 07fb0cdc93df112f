-- `plan::plan_table` meets its contract.
use Rattle.plan.specs.Planning.{planned_of}
use Rattle.plan.proofs.Ordered.{tasks_good}
use Rattle.plan.proofs.plan_table.Goals as goal

pub plan-requires : goal.plan-requires
plan-requires c = rw c.tasks_of.ensures (tasks_good c.args.t.now c.requires)

pub returns : goal.returns
unfolding planned_of
returns c = rw c.tasks_of.ensures at c.plan.ensures
