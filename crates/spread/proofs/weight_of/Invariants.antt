-- `spread::weight_of` meets its contract. The loop's invariant: `sum` is what the first k rows weigh, at most a million each.
use Prim.Native.Nat.{◌*◌, ◌≤◌}
use mathlib.Core.Path.{◌≡◌}
use Rattle.spread.specs.Weight.{weight_of}
use Rattle.spread.proofs.weight_of.Given as goal

abbrev pub invariant-loop-k : goal.invariant-loop-k
invariant-loop-k l =
    (l.sum ≡ weight_of l.period l.section l.resource l.k l.r) × (l.sum ≤ l.k * 1000000)
