-- `listing::put_tasks` meets its contract. The loop's invariant: the lines of the first k rows are written, in at most 60 bytes each.
use mathlib.Core.Path.{◌≡◌}
use native.Mathlib.Omega.{arith}
use Rattle.lists.specs.Tab.{joined}
use Rattle.lists.proofs.Joined.{joined_more}
use Rattle.listing.specs.Listing.{task_line}
use Rattle.listing.proofs.Text.{then, wrote_nothing}
use Rattle.listing.proofs.put_tasks.Goals as goal

pub loop-k-init : goal.loop-k-init
unfolding joined
loop-k-init c =
    let a = c.args in
    (wrote_nothing a.out.now a.at, omega arith)

pub loop-k-preserved : goal.loop-k-preserved
unfolding task_line
loop-k-preserved c =
    let l = c.loop-k in
    let p = c.args.p.now in
    let f = task_line p.processor p.d1 p.section p.d2 in
    (rw (joined_more l.k f) (then (joined l.k f) (f l.k) l.invariant.0 c.put_line-end.ensures.0), omega (arith, c.put_line-end.ensures.1))

pub returns : goal.returns
returns c =
    let l = c.loop-k in
    let q : l.k ≡ c.args.n = omega arith in
    (rw q at l.invariant.0, omega arith)
