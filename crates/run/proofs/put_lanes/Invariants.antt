-- `run::put_lanes` meets its contract: the lane is written k times, one behind the other.
use mathlib.Core.Path.{◌≡◌}
use lib.Seq.{sets}
use Rattle.lists.specs.Tab.{joined}
use Rattle.run.proofs.put_lanes.Given as goal

abbrev pub invariant-loop-k : goal.invariant-loop-k
invariant-loop-k l = l.trace ≡ sets l.initial.trace l.at (joined l.k (λ i. l.lane))
