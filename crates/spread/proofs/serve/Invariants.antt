-- `spread::serve` meets its contract. The loop's invariant: the first j resources of the order are given, and no sum of loads can wrap.
use mathlib.Core.Path.{◌≡◌}
use Rattle.spread.specs.Spread.{loads_of, serves_of}
use Rattle.spread.proofs.serve.Given as goal

abbrev pub invariant-loop-number : goal.invariant-loop-number
invariant-loop-number l =
    (l.serves ≡ serves_of l.weight l.order l.s l.number-index) × (l.load ≡ loads_of l.weight l.order l.s l.number-index)
