-- `spread::serve` meets its contract. The loop's invariant: the resources of the order that are passed are given, and no sum of loads can wrap.
use Prim.Native.Nat.{ℕ, ◌<◌, ◌≤◌}
use mathlib.Core.Path.{◌≡◌, ◌∙◌, ap}
use mathlib.Core.List.{List}
use native.Mathlib.Omega.{arith}
use lib.ListN.{get_or, length-take}
use lib.Seq.{get_or-take}
use Rattle.spread.specs.Spread.{lightest_of, loads_of, serves_of}
use Rattle.spread.proofs.Spread.{loads_more, serves_more, loads_le}
use Rattle.spread.proofs.serve.Goals as goal

pub loop-number-init : goal.loop-number-init
unfolding serves_of loads_of
loop-number-init c = (c.blank-serves.ensures, c.blank-load.ensures)

pub overflow_add-load : goal.overflow_add-load
overflow_add-load c =
    let l = c.loop-number in
    let j = l.number-index in
    let k : j < c.args.u = omega (arith, length-take c.args.u c.args.order.now) in
    let r = get_or-take c.args.u c.args.order.now j 0 k in
    let small : (i : ℕ) → i < c.args.u → get_or c.args.weight.now (get_or c.args.order.now i 0) 0 ≤ 64000000 = λ i k. c.requires.3 (get_or c.args.order.now i 0) (omega (arith, c.requires.2 i k)) in
    let e = ap (λ (x : List ℕ). get_or x c.lightest-p.result 0) l.invariant.1 in
    rw r (omega (arith, e, small j k, loads_le c.args.weight.now c.args.order.now c.args.s j (λ i k. small i (omega arith)) c.lightest-p.result))

pub loop-number-preserved : goal.loop-number-preserved
loop-number-preserved c =
    let l = c.loop-number in
    let a = c.args in
    let j = l.number-index in
    let r = get_or-take a.u a.order.now j 0 (omega (arith, length-take a.u a.order.now)) in
    let p : c.lightest-p.result ≡ lightest_of (loads_of a.weight.now a.order.now a.s j) a.s =
    c.lightest-p.ensures.0 ∙ ap (λ (x : List ℕ). lightest_of x a.s) l.invariant.1 in
    (rw (r, serves_more a.weight.now a.order.now a.s j, l.invariant.0, p), rw (r, loads_more a.weight.now a.order.now a.s j, p, l.invariant.1))
