-- `stretch::run_rows` meets its contract. The loop's invariant: the rows that the first q processors pick have run.
use Prim.Native.Nat.{suc, ◌-◌}
use mathlib.Core.Path.{◌≡◌}
use native.Mathlib.Omega.{arith}
use lib.ListN.{get_or}
use Rattle.stretch.proofs.Running.{ran_none, ready_next, ran_more, ran_jobs, ran_due}
use Rattle.stretch.proofs.run_rows.Goals.{then-row-gt0, else-row-gt0}
use Rattle.stretch.proofs.run_rows.Goals as goal

pub run_row-requires : goal.run_row-requires
run_row-requires c =
    let q = c.loop-row.row-index in
    let i = get_or c.args.picked.now q 0 - 1 in
    let e : get_or c.args.picked.now q 0 ≡ suc i = omega (arith, c.if-row-gt0.true) in
    ((c.requires.3 q i (omega arith) e).0, c.requires.0, c.requires.1, c.requires.2, ready_next c.loop-row.invariant.2 c.requires.3 i (omega arith) e)

pub loop-row-preserved : goal.loop-row-preserved
loop-row-preserved c =
    let l = c.loop-row in (
      c.if-row-gt0.array_long,
      c.if-row-gt0.array_long2,
      elim c.if-row-gt0.branch [
        | then-row-gt0 w ↦ rw (w.jobs-is, w.due-is) (ran_more l.invariant.2 c.requires.3 (get_or c.args.picked.now l.row-index 0 - 1) (omega arith) (omega (arith, w.if-row-gt0.true)) _ l.invariant.1 w.run_row.ensures.0 w.run_row.ensures.1)
        | else-row-gt0 w ↦ rw (w.jobs-is, w.due-is) (ran_none l.invariant.2 (omega (arith, w.if-row-gt0.false)))
      ],
    )

pub returns : goal.returns
returns c =
    let l = c.loop-row in
    let e : l.row-index ≡ 17 = omega arith in
    let r = rw e at l.invariant.2 in
    (ran_jobs r c.requires.3 c.requires.2, ran_due r c.requires.3 c.requires.2, l.invariant.0, l.invariant.1)
