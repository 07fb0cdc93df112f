-- `sections::blocking` meets its contract. The loop's invariant: the largest so far is that among the first i tasks.
use mathlib.Core.Path.{sym}
use native.Mathlib.Omega.{arith}
use Rattle.sections.proofs.Blocks.{largest_a_from, largest_a_more, blocking_is}
use Rattle.sections.proofs.blocking.Goals.{then-counts, else-counts}
use Rattle.sections.proofs.blocking.Goals as goal

pub loop-i-init : goal.loop-i-init
loop-i-init c =
    let a = c.args in
    sym (largest_a_from a.npp a.section.now a.top.now a.home.now a.k)

pub loop-i-preserved : goal.loop-i-preserved
loop-i-preserved c =
    let a = c.args in
    let l = c.loop-i in
    let m = largest_a_more a.npp a.section.now a.top.now a.home.now a.k l.i (omega arith) in
    elim c.if-counts.branch [
      | then-counts w ↦ rw (w.most-is, w.max-most.ensures, l.invariant, m, sym c.counts.ensures, w.if-counts.true)
      | else-counts w ↦ rw (w.most-is, l.invariant, m, sym c.counts.ensures, w.if-counts.false)
    ]

pub returns : goal.returns
returns c =
    let a = c.args in
    let l = c.loop-i in
    rw c.saturating_sub.ensures (blocking_is a.npp a.section.now a.top.now a.home.now a.k l.i a.n l.most (omega arith) l.invariant)
