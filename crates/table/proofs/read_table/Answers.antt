-- `table::read_table` meets its contract.
use mathlib.Core.Path.{sym}
use Rattle.std.proofs.lemmas.Result.{err_from_is_err_and}
use Rattle.table.proofs.Laws.{refused_reading, rows_read}
use Rattle.table.proofs.read_table.Goals as goal

pub returns-in_err-h : goal.returns-in_err-h
returns-in_err-h c =
    let p = err_from_is_err_and c.from_residual.result c.from_residual.ensures.1 in
    rw (p.1, p.2, refused_reading c.args.bytes.now c.in_err-h.field-0.0 (sym c.in_err-h.ensures))

pub read_rows-requires : goal.read_rows-requires
read_rows-requires c =
    let r = rows_read c.args.bytes.now c.in_ok-h.h (sym c.in_ok-h.ensures) in
    rw r.1 (r.0.rows.1, r.0.whole)

pub returns : goal.returns
returns c = rw (rows_read c.args.bytes.now c.in_ok-h.h (sym c.in_ok-h.ensures)).2 c.read_rows.ensures
