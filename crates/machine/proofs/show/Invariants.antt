-- `machine::show` meets its contract: the bytes of the first k processors are written.
use Prim.Native.Nat.{suc}
use mathlib.Core.Path.{◌≡◌}
use mathlib.Core.List.{◌++◌}
use lib.ListN.{get_or, drop}
use Rattle.lists.specs.Tab.{tab}
use Rattle.jobs.specs.Numbers.{jobs_in}
use Rattle.machine.specs.Tick.{byte_of}
use Rattle.machine.proofs.show.Given as goal

abbrev pub invariant-loop-k : goal.invariant-loop-k
invariant-loop-k l = l.lane ≡ tab l.k (λ q. byte_of (jobs_in l.jobs) (get_or l.picked (suc q) 0)) ++ drop l.k l.initial.lane
