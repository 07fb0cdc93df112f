-- `machine::release_each` meets its contract: the first i rows have their releases, none of them too early.
use Rattle.arrivals.specs.Arrival.{listed}
use Rattle.machine.proofs.Releasing.{WentOn}
use Rattle.machine.proofs.release_each.Given as goal

abbrev pub invariant-loop-i : goal.invariant-loop-i
invariant-loop-i l = WentOn l.c.bounds (listed l.xs) l.t l.initial.jobs l.c.n l.i l.jobs l.due l.at
