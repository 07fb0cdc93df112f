-- `plan::of_resource` meets its contract. The loop's invariant: the first k places are filled.
use mathlib.Core.Path.{◌≡◌}
use Rattle.plan.specs.Tasks.{of_resource}
use Rattle.plan.proofs.of_resource.Given as goal

abbrev pub invariant-loop-k : goal.invariant-loop-k
invariant-loop-k l = l.out ≡ of_resource l.value l.resource l.k
