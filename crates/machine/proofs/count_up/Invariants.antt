-- `machine::count_up` meets its contract: the sums of the first i jobs are counted.
use Prim.Native.Nat.{◌*◌, ◌≤◌}
use mathlib.Core.Path.{◌≡◌}
use Rattle.jobs.specs.Numbers.{jobs_in}
use Rattle.machine.specs.Counts.{tally_of}
use Rattle.machine.proofs.count_up.Given as goal

abbrev pub invariant-loop-i : goal.invariant-loop-i
invariant-loop-i l =
    (l.tally ≡ tally_of l.i (jobs_in l.jobs))
    × (l.tally.jobs ≤ l.i * 4294967295) × (l.tally.run ≤ l.i * 4294967295) × (l.tally.owed ≤ l.i * 12884901885)
