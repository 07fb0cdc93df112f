-- `listing::put_resources` meets its contract. The loop's invariant: the lines of resources 1 to i are written, in at most 31 bytes each.
use Prim.Native.Nat.{◌+◌, ◌*◌, ◌≤◌}
use Rattle.listing.specs.Text.{Wrote}
use Rattle.listing.specs.Listing.{resource_lines}
use Rattle.listing.proofs.put_resources.Given as goal

abbrev pub invariant-loop-i : goal.invariant-loop-i
invariant-loop-i l =
    Wrote l.initial.out l.at l.out l.end (resource_lines l.serves l.i) × (l.end ≤ l.at + 31 * l.i)
