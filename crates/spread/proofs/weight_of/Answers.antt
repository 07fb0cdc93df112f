-- `spread::weight_of` meets its contract. The loop's invariant: `sum` is what the first k rows weigh, at most a million each.
use native.Mathlib.Omega.{arith}
use borrow.Author.Rules.{rules}
use Rattle.spread.specs.Weight.{weight_of}
use Rattle.spread.proofs.Weight.{weight_more}
use Rattle.spread.proofs.weight_of.Goals as goal

pub loop-k-init : goal.loop-k-init
unfolding weight_of
loop-k-init c = search rules

pub loop-k-preserved : goal.loop-k-preserved
loop-k-preserved c =
    let a = c.args in
    (omega (arith, weight_more a.period.now a.section.now a.resource.now c.loop-k.k a.r), omega arith)
