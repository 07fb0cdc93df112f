-- `table::rows_refusal` meets its contract.
use mathlib.Core.Path.{sym, ◌∙◌}
use native.Mathlib.Omega.{arith}
use borrow.Author.Count.{below_more}
use Rattle.table.proofs.Laws.{good_row, rows_refused, rows_accepted}
use Rattle.table.proofs.rows_refusal.Goals as goal

pub returns-in-Err : goal.returns-in-Err
returns-in-Err c =
    λ m npp.
    let l = c.loop-i in
    let bs = c.args.bytes.now in
    rw (rows_refused bs c.args.n m npp l.i c.in-Err.fault (omega arith) l.invariant (sym c.row_at.ensures ∙ c.in-Err.is)) cc

pub loop-i-preserved : goal.loop-i-preserved
loop-i-preserved c =
    let l = c.loop-i in
    below_more _ _ l.invariant (good_row c.args.bytes.now c.in_default.field-0 l.i (sym c.row_at.ensures ∙ c.in_default.is))

pub returns : goal.returns
returns c =
    λ m npp.
    rw (rows_accepted c.args.bytes.now c.args.n m npp (λ k h. c.loop-i.invariant k (omega arith))) cc
