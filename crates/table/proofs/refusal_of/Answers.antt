-- `table::refusal_of` meets its contract.
use mathlib.Core.Path.{sym}
use Rattle.table.proofs.Laws.{refused_reading, rows_read}
use Rattle.table.proofs.refusal_of.Goals as goal

pub rows_refusal-requires : goal.rows_refusal-requires
rows_refusal-requires c =
    let r = rows_read c.args.bytes.now c.in-Ok.h (sym c.in-Ok.ensures) in
    rw r.1 (r.0.rows.1, r.0.whole)

pub returns-in-Ok : goal.returns-in-Ok
returns-in-Ok c = rw (rows_read c.args.bytes.now c.in-Ok.h (sym c.in-Ok.ensures)).2 (c.rows_refusal.ensures c.in-Ok.h.m c.in-Ok.h.npp)

pub returns-in-Err : goal.returns-in-Err
returns-in-Err c = rw (refused_reading c.args.bytes.now c.in-Err.no (sym c.in-Err.ensures))
