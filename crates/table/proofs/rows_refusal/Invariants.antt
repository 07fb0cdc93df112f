-- `table::rows_refusal` meets its contract. The loop's invariant: the first i rows are good.
use Rattle.table.proofs.Laws.{Read}
use Rattle.table.proofs.rows_refusal.Given as goal

abbrev pub invariant-loop-i : goal.invariant-loop-i
invariant-loop-i l = Read l.bytes l.i
