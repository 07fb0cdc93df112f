-- `plan::Tasks::plan_by` meets its contract.
use Rattle.plan.specs.Trial.{plan_by}
use Rattle.plan.proofs.Tasks.plan_by.Goals as goal

pub returns : goal.returns
unfolding plan_by
returns c = rw (c.in_rows.ensures, c.in_rows-2.ensures, c.in_rows-3.ensures, c.in_rows-4.ensures)
