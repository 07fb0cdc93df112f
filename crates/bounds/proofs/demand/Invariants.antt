-- `bounds::demand` meets its contract. The loop's invariant: the sum so far is `own` and what the terms before this one ask for, and stays
-- far below 2^32.
use Prim.Native.Nat.{◌+◌, ◌*◌, ◌≤◌}
use mathlib.Core.Path.{◌≡◌}
use lib.ListN.{take}
use Rattle.bounds.specs.Demand.{demand}
use Rattle.bounds.proofs.demand.Given as goal

abbrev pub invariant-loop-x : goal.invariant-loop-x
invariant-loop-x l =
    (l.sum ≡ l.own + demand (take l.x-index l.terms) l.t) × (l.sum ≤ l.own + l.x-index * 2000000)
