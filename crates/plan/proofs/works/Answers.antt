-- `plan::works` meets its contract. The loop's invariant: the first k places are filled.
use Prim.Native.Nat.{◌+◌}
use mathlib.Core.Path.{sym, ◌∙◌}
use native.Mathlib.Omega.{arith}
use lib.ListN.{get_or}
use Rattle.lists.proofs.Tab.{filled_none, filled_next}
use Rattle.plan.proofs.works.Goals as goal

pub loop-k-init : goal.loop-k-init
loop-k-init c =
    let a = c.args in
    c.blank-out.ensures ∙ sym (filled_none 64 0 (λ k. get_or a.c1.now k 0 + get_or a.c2.now k 0))

pub loop-k-preserved : goal.loop-k-preserved
loop-k-preserved c =
    let a = c.args in
    filled_next 64 0 (λ k. get_or a.c1.now k 0 + get_or a.c2.now k 0) c.loop-k.k c.loop-k.out (omega arith) c.loop-k.invariant
