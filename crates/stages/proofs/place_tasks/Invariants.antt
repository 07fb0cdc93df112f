-- `stages::place_tasks` meets its contract. The loop's invariant: the first k tasks have their places, and stand in the lanes of their processors.
use Rattle.bounds.proofs.Filling.{Filled}
use Rattle.stages.proofs.Placing.{Held}
use Rattle.stages.proofs.place_tasks.Given as goal

abbrev pub invariant-loop-k : goal.invariant-loop-k
invariant-loop-k l =
    Held l.period l.c1 l.c2 l.work l.section l.s l.m l.k l.placed.processor l.placed.d1 l.placed.d2 × Filled l.period l.work l.placed.processor l.lanes l.k
