-- `stretch::note_rows` meets its contract. The loop's invariant: the responses on the first q processors are noted.
use Prim.Native.Nat.{◌+◌}
use mathlib.Core.Path.{◌≡◌}
use Rattle.lists.specs.Tab.{tab}
use Rattle.chain.specs.Unit.{push}
use Rattle.jobs.specs.Numbers.{job_in}
use Rattle.machine.specs.Tick.{noted_to}
use Rattle.stretch.proofs.note_rows.Given as goal

abbrev pub invariant-loop-row : goal.invariant-loop-row
invariant-loop-row l =
    l.worst ≡ noted_to l.c.bounds (l.t + l.k) (tab 64 (λ i. push l.t l.k (job_in l.jobs i))) l.picked l.row-index l.initial.worst
