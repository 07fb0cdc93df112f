-- `spread::weights` meets its contract. The loop's invariant: the first r places hold their weights.
use mathlib.Core.Path.{◌≡◌}
use Rattle.lists.specs.Tab.{filled}
use Rattle.spread.specs.Weight.{weight_of}
use Rattle.spread.proofs.weights.Given as goal

abbrev pub invariant-loop-r : goal.invariant-loop-r
invariant-loop-r l =
    l.out ≡ filled 17 0 l.r (weight_of l.period l.section l.resource l.n)
