-- `bounds::least` meets its contract. The loop's invariant: t is a member of the sequence, and none before it is above the limit.
use Prim.Native.Nat.{◌+◌, ◌-◌, ◌≤◌}
use Rattle.bounds.specs.Sequence.{Reached}
use Rattle.bounds.proofs.least.Given as goal

abbrev pub invariant-loop-t : goal.invariant-loop-t
invariant-loop-t l = (1 ≤ l.t) × Reached l.terms l.own l.limit l.t

abbrev pub decreases-loop-t : goal.decreases-loop-t
decreases-loop-t l = l.limit + 1 - l.t
