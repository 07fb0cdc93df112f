-- `stages::place_tasks` meets its contract. The loop's invariant: the first k tasks have their places, and stand in the lanes of their processors.
use Prim.Native.Nat.{◌<◌}
use mathlib.Core.Path.{◌≡◌, sym, ◌∙◌, ap}
use native.Mathlib.Omega.{arith}
use lib.ListN.{length}
use Rattle.bounds.proofs.Filling.{lanes_none, lanes_good}
use Rattle.stages.proofs.Fitting.{place_in}
use Rattle.stages.proofs.Placing.{good_term, length-placed, held_none, held_more, place_found, lanes_next, stages_nowhere, stages_all}
use Rattle.stages.proofs.place_tasks.Goals as goal

pub loop-k-init : goal.loop-k-init
loop-k-init c =
    let a = c.args in (
      held_none a.period.now a.c1.now a.c2.now a.work.now a.section.now a.s a.m c.blank.result c.blank-2.result c.blank-3.result c.blank.ensures c.blank-2.ensures c.blank-3.ensures,
      lanes_none a.period.now a.work.now c.blank.result c.new-lanes.result c.new-lanes.ensures.0 c.new-lanes.ensures.1,
    )

pub invariant_of-need : goal.invariant_of-need
invariant_of-need c =
    let l = c.loop-k in
    let t = c.requires.period l.k (omega arith) in
    let w = c.requires.work l.k (omega arith) in
    record { in_period = (omega (arith, w.0, w.1, t.1), omega (arith, w.0, w.1, t.1), c.requires.section l.k (omega arith), t.1) }

pub first_fit-requires : goal.first_fit-requires
first_fit-requires c =
    let a = c.args in
    let g = c.requires in
    let l = c.loop-k in
    let few : l.k < 64 = omega (arith, g.few) in
    let terms = lanes_good a.period.now a.work.now l.invariant.1 (λ i b. good_term a.period.now a.c1.now a.c2.now a.work.now a.section.now a.s a.m a.n g i (omega arith)) in
    (g.processors.0, g.processors.1, λ p b. (omega (arith, l.invariant.1.few p b), terms p b))

pub add-requires : goal.add-requires
add-requires c =
    let a = c.args in
    let l = c.loop-k in
    let few : l.k < 64 = omega (arith, c.requires.few) in
    let m = c.requires.processors.1 in
    let x = c.in-Ok.spot in
    let i = place_in _ a.s a.m x.processor x.d1 x.d2 (sym c.in-Ok.ensures) in
    let p : x.processor < 17 = omega (arith, i.1, m) in
    (p, omega (arith, few, l.invariant.1.few x.processor p))

pub returns-in-Err : goal.returns-in-Err
returns-in-Err c =
    let a = c.args in
    let l = c.loop-k in
    let e = sym (place_found a.period.now a.c1.now a.c2.now a.work.now a.section.now a.s a.m l.k c.requires.processors.1 l.invariant.0 l.invariant.1) ∙ sym c.in-Err.ensures in
    stages_nowhere a.period.now a.c1.now a.c2.now a.work.now a.section.now a.s a.m a.n l.k c.in-Err.broke.value (omega arith) l.invariant.0 e

pub loop-k-preserved : goal.loop-k-preserved
loop-k-preserved c =
    let a = c.args in
    let l = c.loop-k in
    let few : l.k < 64 = omega (arith, c.requires.few) in
    let m = c.requires.processors.1 in
    let x = c.in-Ok.spot in
    let i = place_in _ a.s a.m x.processor x.d1 x.d2 (sym c.in-Ok.ensures) in
    let e = sym (place_found a.period.now a.c1.now a.c2.now a.work.now a.section.now a.s a.m l.k m l.invariant.0 l.invariant.1) ∙ sym c.in-Ok.ensures in (
      held_more a.period.now a.c1.now a.c2.now a.work.now a.section.now a.s a.m l.k x.processor x.d1 x.d2 few e l.invariant.0,
      lanes_next a.period.now a.c1.now a.c2.now a.work.now a.section.now a.s a.m l.k x.processor few (omega (arith, i.1, m)) (ap length l.invariant.0.processors ∙ length-placed a.period.now a.c1.now a.c2.now a.work.now a.section.now a.s a.m l.k) l.invariant.1 c.add.ensures.0 c.add.ensures.1,
    )

pub returns : goal.returns
returns c =
    let a = c.args in
    let l = c.loop-k in
    let q : l.k ≡ a.n = omega arith in
    stages_all a.period.now a.c1.now a.c2.now a.work.now a.section.now a.s a.m a.n (rw q at l.invariant.0)
