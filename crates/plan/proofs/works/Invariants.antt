-- `plan::works` meets its contract. The loop's invariant: the first k places are filled.
use mathlib.Core.Path.{◌≡◌}
use Rattle.plan.specs.Tasks.{works_of}
use Rattle.plan.proofs.works.Given as goal

abbrev pub invariant-loop-k : goal.invariant-loop-k
invariant-loop-k l = l.out ≡ works_of l.c1 l.c2 l.k
