-- `plan::Tasks::serve` meets its contract.
use Rattle.plan.specs.Trial.{serves}
use Rattle.plan.proofs.Tasks.serve.Goals as goal

pub returns : goal.returns
unfolding serves
returns c = c.serve.ensures
