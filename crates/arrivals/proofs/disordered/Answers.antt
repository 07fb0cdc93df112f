-- `arrivals::disordered` meets its contract.
use mathlib.Core.Path.{sym}
use native.Mathlib.Nat.{le_antisymm}
use Rattle.arrivals.specs.Check.{disordered}
use Rattle.arrivals.proofs.Order.{tick_later, tick_earlier, tick_same}
use Rattle.arrivals.proofs.disordered.Goals as goal

pub returns-then-k-eq0 : goal.returns-then-k-eq0
unfolding disordered
returns-then-k-eq0 c = rw c.if-k-eq0.true

pub returns-then-before-here : goal.returns-then-before-here
returns-then-before-here c =
    sym (tick_later _ _ _ _ (sym c.arrival-before.ensures) (sym c.arrival-here.ensures) c.if-k-eq0.false c.if-before-here.true)

pub returns-then-before-here-2 : goal.returns-then-before-here-2
returns-then-before-here-2 c =
    sym (tick_earlier _ _ _ _ (sym c.arrival-before.ensures) (sym c.arrival-here.ensures) c.if-k-eq0.false c.if-before-here-2.true)

pub returns : goal.returns
returns c =
    sym (tick_same _ _ _ _ (sym c.arrival-before.ensures) (sym c.arrival-here.ensures) c.if-k-eq0.false (le_antisymm c.if-before-here.false c.if-before-here-2.false))
