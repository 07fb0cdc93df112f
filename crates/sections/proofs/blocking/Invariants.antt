-- `sections::blocking` meets its contract. The loop's invariant: the largest so far is that among the first i tasks.
use mathlib.Core.Path.{◌≡◌}
use Rattle.sections.specs.Blocking.{largest_a}
use Rattle.sections.proofs.blocking.Given as goal

abbrev pub invariant-loop-i : goal.invariant-loop-i
invariant-loop-i l = l.most ≡ largest_a l.npp l.section l.top l.home l.i l.k
