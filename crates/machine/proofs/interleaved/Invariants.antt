-- `machine::interleaved` meets its contract: the numbers of the first i rows are written.
use mathlib.Core.Path.{◌≡◌}
use Rattle.machine.specs.Chart.{threes}
use Rattle.machine.proofs.interleaved.Given as goal

abbrev pub invariant-loop-i : goal.invariant-loop-i
invariant-loop-i l = l.out ≡ threes l.x l.y l.z l.i
