-- `listing::spell` meets its contract. The loop's invariant: the digits of `rest` in front of those that are stored are the digits of x, and `rest` has at most as many digits as there is room.
use Prim.Native.Nat.{suc, ◌^◌, ◌≤◌, ◌<◌}
use mathlib.Core.Path.{◌≡◌}
use lib.ListN.{length, drop}
use Rattle.listing.specs.Text.{spelled, decimal}
use Rattle.listing.proofs.spell.Given as goal

abbrev pub invariant-loop-rest : goal.invariant-loop-rest
invariant-loop-rest l =
    (1 ≤ l.from) × (l.from ≤ 10) × (length l.places ≡ 10) × (l.rest < 10 ^ l.from) × (decimal l.x ≡ spelled (suc l.rest) l.rest (drop l.from l.places))

abbrev pub decreases-loop-rest : goal.decreases-loop-rest
decreases-loop-rest l = l.rest
