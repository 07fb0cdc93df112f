-- `spread::lacks` meets its contract. The loop's invariant: the first r places hold what their resources lack.
use Prim.Native.Nat.{◌+◌, ◌-◌}
use mathlib.Core.Path.{◌≡◌, sym, ◌∙◌}
use native.Mathlib.Omega.{arith}
use lib.ListN.{get_or}
use Rattle.lists.proofs.Tab.{filled_none, filled_more}
use Rattle.spread.specs.Weight.{lacks_of}
use Rattle.spread.proofs.lacks.Goals as goal

pub loop-r-init : goal.loop-r-init
loop-r-init c = c.blank-out.ensures ∙ sym (filled_none 64 0 (λ k. 64000000 - get_or c.args.weight.now (k + 1) 0))

pub loop-r-preserved : goal.loop-r-preserved
loop-r-preserved c =
    rw c.loop-r.invariant (filled_more 64 0 (λ k. 64000000 - get_or c.args.weight.now (k + 1) 0) c.loop-r.r (omega arith))

pub returns : goal.returns
unfolding lacks_of
returns c =
    let q : c.loop-r.r ≡ 16 = omega arith in
    rw q at c.loop-r.invariant
