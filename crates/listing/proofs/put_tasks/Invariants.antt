-- `listing::put_tasks` meets its contract. The loop's invariant: the lines of the first k rows are written, in at most 60 bytes each.
use Prim.Native.Nat.{◌+◌, ◌*◌, ◌≤◌}
use Rattle.lists.specs.Tab.{joined}
use Rattle.listing.specs.Text.{Wrote}
use Rattle.listing.specs.Listing.{task_line}
use Rattle.listing.proofs.put_tasks.Given as goal

abbrev pub invariant-loop-k : goal.invariant-loop-k
invariant-loop-k l =
    Wrote l.initial.out l.at l.out l.end (joined l.k (task_line l.p.processor l.p.d1 l.p.section l.p.d2)) × (l.end ≤ l.at + 60 * l.k)
