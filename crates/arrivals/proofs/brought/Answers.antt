-- `arrivals::brought` meets its contract.
use borrow.Author.Tests.{lt-ltb, eq-eqb, ne_eqb}
use Rattle.arrivals.specs.Arrival.{arrival_in}
use Rattle.arrivals.proofs.Numbers.{arrival_at_lem, is_of_by}
use Rattle.arrivals.proofs.brought.Goals.{then-xs-at-via-then-xs-at, then-xs-at-via-else-xs-at+then-xs-at-2}
use Rattle.arrivals.proofs.brought.Goals as goal

pub returns-then-xs-at : goal.returns-then-xs-at
returns-then-xs-at c =
    let l = c.if-next-xs.false in
    let e = is_of_by c.args.xs.now.numbers.now c.args.xs.now.count c.args.i c.args.t c.args.next l in
    elim c.then-xs-at.branch [
      | then-xs-at-via-then-xs-at w ↦ rw (lt-ltb _ _ l, e, ne_eqb _ _ w.if-xs-at.true)
      | then-xs-at-via-else-xs-at+then-xs-at-2 w ↦ rw (lt-ltb _ _ l, e, eq-eqb _ _ w.if-xs-at.false, ne_eqb _ _ w.if-xs-at-2.true)
    ]

pub returns : goal.returns
unfolding arrival_in
returns c =
    let l = c.if-next-xs.false in
    let n = c.args.xs.now.numbers.now in
    rw (lt-ltb _ _ l, is_of_by n c.args.xs.now.count c.args.i c.args.t c.args.next l, eq-eqb _ _ c.if-xs-at.false, eq-eqb _ _ c.if-xs-at-2.false, arrival_at_lem n c.args.xs.now.count c.args.next l)
