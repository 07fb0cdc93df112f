-- `stretch::before_arrival` meets its contract.
use Prim.Native.Nat.{ℕ, ◌+◌, ◌*◌, ◌≤◌, ◌<◌}
use mathlib.Core.List.{List}
use lib.ListN.{get_or}
use Rattle.arrivals.specs.Arrival.{arrival_at, arrival_in, arrivals_of}
use Rattle.arrivals.proofs.Numbers.{arrival_at_lem}
use Rattle.stretch.proofs.before_arrival.Goals as goal

-- the tick of an arrival is the first of its numbers
tick_at : (flat : List ℕ) (count k s : ℕ) → k < count → s ≤ get_or flat (5 * k) 0 → s ≤ (arrival_at (arrivals_of flat count) k).tick
unfolding arrival_in
tick_at flat count k s h l = rw (arrival_at_lem flat count k h) l

pub returns : goal.returns
returns c =
    let a = c.args in
    (c.gap.ensures.0, λ h l. tick_at a.xs.now.numbers.now a.xs.now.count a.next (a.t + c.gap.result) l (c.gap.ensures.1 h))
