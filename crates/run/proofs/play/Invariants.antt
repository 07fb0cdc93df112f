-- `run::play` meets its contract: the machine stands as after ticks 0 to from + k - 1, and a trace of a lane for each processor begins
-- with the bytes of the last k of them.
use Prim.Native.Nat.{◌+◌, ◌-◌, ◌≤◌}
use mathlib.Core.Path.{◌≡◌}
use lib.ListN.{length}
use lib.Seq.{sets}
use Rattle.arrivals.specs.Arrival.{listed}
use Rattle.run.specs.State.{Stands}
use Rattle.run.specs.Run.{log}
use Rattle.run.proofs.play.Given as goal

abbrev pub invariant-loop-k : goal.invariant-loop-k
invariant-loop-k l =
    (l.k ≤ l.ticks) × (length l.lane ≡ l.shown) × Stands l.c (listed l.xs) (l.from + l.k) l.s.jobs l.s.due l.s.worst l.s.next
    × (l.shown ≡ l.c.m → l.trace ≡ sets l.initial.trace 0 (log l.c (listed l.xs) l.from l.k))

abbrev pub decreases-loop-k : goal.decreases-loop-k
decreases-loop-k l = l.ticks - l.k
