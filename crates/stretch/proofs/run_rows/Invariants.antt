-- `stretch::run_rows` meets its contract. The loop's invariant: the rows that the first q processors pick have run.
use mathlib.Core.Path.{◌≡◌}
use lib.ListN.{length}
use Rattle.stretch.proofs.Running.{Ran}
use Rattle.stretch.proofs.run_rows.Given as goal

abbrev pub invariant-loop-row : goal.invariant-loop-row
invariant-loop-row l =
    (length l.jobs ≡ 576) × (length l.due ≡ 64) × Ran l.picked l.c.bounds l.c.homes l.t l.k l.initial.jobs l.initial.due l.row-index l.jobs l.due
