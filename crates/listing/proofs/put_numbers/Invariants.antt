-- `listing::put_numbers` meets its contract. The loop's invariant: the numbers ahead of x are written, in at most 11 bytes each.
use Prim.Native.Nat.{◌+◌, ◌*◌, ◌≤◌}
use lib.ListN.{take}
use Rattle.listing.specs.Text.{spaced, Wrote}
use Rattle.listing.proofs.put_numbers.Given as goal

abbrev pub invariant-loop-x : goal.invariant-loop-x
invariant-loop-x l =
    Wrote l.initial.out l.at l.out l.end (spaced (take l.x-index l.numbers)) × (l.end ≤ l.at + 11 * l.x-index)
