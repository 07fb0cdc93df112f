-- The loop of `arrivals::taken_apart`: the first k records are taken apart.
use Rattle.std.proofs.Common.{◌≡◌}
use Rattle.arrivals.specs.Arrival.{flat_of}
use Rattle.arrivals.proofs.taken_apart.Given as goal

abbrev pub invariant-loop-k : goal.invariant-loop-k
invariant-loop-k l = l.flat ≡ flat_of l.list l.k l.initial.flat
