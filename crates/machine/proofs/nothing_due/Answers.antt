-- `machine::nothing_due` meets its contract.
use Prim.Native.Nat.{◌<◌}
use native.Mathlib.Omega.{arith}
use borrow.Author.Tests.{ltb-true}
use Rattle.arrivals.specs.Arrival.{arrival_in}
use Rattle.arrivals.proofs.Numbers.{arrival_at_lem}
use Rattle.machine.proofs.Dues.{soonest_le}
use Rattle.machine.proofs.nothing_due.Goals.{else-next-xs-via-then-next-xs+else-xs-next, else-next-xs-via-else-next-xs}
use Rattle.machine.proofs.nothing_due.Goals as goal

-- the tick of an arrival is the first of its numbers
pub returns : goal.returns
unfolding arrival_in
returns c e =
    let a = c.args in
    let l : a.t < c.soonest.result = ltb-true a.t c.soonest.result e in
    (λ i h. omega (arith, c.soonest.ensures, soonest_le a.due.now a.n i h), λ h. rw (arrival_at_lem a.xs.now.numbers.now a.xs.now.count a.next h) (elim c.else-next-xs.branch [ else-next-xs-via-then-next-xs+else-xs-next w ↦ w.if-xs-next.false | else-next-xs-via-else-next-xs w ↦ absurd (omega (arith, w.if-next-xs.false)) ]))
