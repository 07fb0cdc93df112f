-- `sheet::put_tasks` meets its contract. The loop's invariant: the bytes of the first k tasks are written.
use mathlib.Core.Path.{◌≡◌}
use lib.Seq.{sets}
use Rattle.lists.specs.Tab.{joined}
use Rattle.sheet.specs.Sheet.{task_of}
use Rattle.sheet.proofs.put_tasks.Given as goal

abbrev pub invariant-loop-k : goal.invariant-loop-k
invariant-loop-k l =
    l.part ≡ sets l.initial.part 12 (joined l.k (task_of l.p.processor l.p.d1 l.p.section l.p.d2))
