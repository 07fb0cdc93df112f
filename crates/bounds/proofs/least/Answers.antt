-- `bounds::least` meets its contract. The loop's invariant: t is a member of the sequence, and none before it is above the limit.
use mathlib.Core.Path.{sym, ◌∙◌}
use native.Mathlib.Omega.{arith}
use Rattle.bounds.proofs.Sequence.{reached_own, reached_next, reached_up, reached_under}
use Rattle.bounds.proofs.Search.{least_at, least_none}
use Rattle.bounds.proofs.least.Goals as goal

pub loop-t-init : goal.loop-t-init
loop-t-init c = (omega arith, reached_own _ _ _)

pub returns-then-asked-t : goal.returns-then-asked-t
returns-then-asked-t c =
    let b = c.args in
    let l = c.loop-t in
    sym (least_at b.terms.now b.own b.limit l.t l.invariant.0 (omega arith) (reached_under b.terms.now b.own b.limit l.t l.invariant.1) (sym c.demand-asked.ensures ∙ c.if-asked-t.true))

pub loop-t-smaller : goal.loop-t-smaller
loop-t-smaller c =
    let at = c.loop-t in
    omega (arith, reached_up _ _ _ at.t at.invariant.1, c.demand-asked.ensures, c.if-asked-t.false)

pub loop-t-preserved : goal.loop-t-preserved
loop-t-preserved c =
    let s = c.loop-t in
    (omega (arith, reached_up _ _ _ s.t s.invariant.1, c.demand-asked.ensures, s.invariant.0), rw c.demand-asked.ensures (reached_next _ _ _ s.t (omega arith) s.invariant.1))

pub returns : goal.returns
returns c =
    let b = c.args in
    let l = c.loop-t in
    sym (least_none b.terms.now b.own b.limit l.t (omega arith) (l.invariant.1, omega arith))
