-- `chain::admit` meets its contract.
use Rattle.chain.specs.Job.{moved}
use Rattle.chain.specs.Release.{admit}
use Rattle.chain.proofs.admit.Goals as goal

pub returns-in_default : goal.returns-in_default
unfolding admit
returns-in_default c = rw c.in_default.is

pub returns : goal.returns
unfolding admit moved
returns c = rw (c.in-Some.is, c.moved.ensures, c.enter-place.ensures)
