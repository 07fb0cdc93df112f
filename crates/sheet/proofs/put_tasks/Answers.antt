-- `sheet::put_tasks` meets its contract. The loop's invariant: the bytes of the first k tasks are written.
use borrow.Author.Rules.{rules}
use Rattle.lists.specs.Tab.{joined}
use Rattle.lists.proofs.Joined.{joined_next}
use Rattle.sheet.specs.Sheet.{task_of}
use Rattle.sheet.proofs.Words.{length_task}
use Rattle.sheet.proofs.put_tasks.Goals as goal

pub loop-k-init : goal.loop-k-init
unfolding joined
loop-k-init c = search rules

pub loop-k-preserved : goal.loop-k-preserved
unfolding task_of
loop-k-preserved c =
    let l = c.loop-k in
    let p = c.args.p.now in
    joined_next 9 (task_of p.processor p.d1 p.section p.d2) (length_task p.processor p.d1 p.section p.d2) c.args.part.now 12 l.k l.invariant c.put_task.ensures
