-- `plan::Tasks::plan` meets its contract. The loop's invariant: no trial before s succeeds.
use Rattle.plan.proofs.Trials.{NoneBefore}
use Rattle.plan.proofs.Tasks.plan.Given as goal

abbrev pub invariant-loop-s : goal.invariant-loop-s
invariant-loop-s l = NoneBefore l.self l.s
