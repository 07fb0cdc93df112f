-- `spread::weights` meets its contract. The loop's invariant: the first r places hold their weights.
use mathlib.Core.Path.{◌≡◌, sym, ◌∙◌}
use native.Mathlib.Omega.{arith}
use Rattle.lists.proofs.Tab.{filled_none, filled_more, filled_all}
use Rattle.spread.specs.Weight.{weight_of, weights_of}
use Rattle.spread.proofs.weights.Goals as goal

pub loop-r-init : goal.loop-r-init
loop-r-init c =
    let a = c.args in
    c.blank-out.ensures ∙ sym (filled_none 17 0 (weight_of a.period.now a.section.now a.resource.now a.n))

pub loop-r-preserved : goal.loop-r-preserved
loop-r-preserved c =
    let l = c.loop-r in
    let a = c.args in
    rw (l.invariant, c.weight_of.ensures.0) (filled_more 17 0 (weight_of a.period.now a.section.now a.resource.now a.n) l.r (omega arith))

pub returns : goal.returns
unfolding weights_of
returns c =
    let l = c.loop-r in
    let a = c.args in
    let q : l.r ≡ 17 = omega arith in
    (rw q at l.invariant) ∙ filled_all 17 0 (weight_of a.period.now a.section.now a.resource.now a.n)
