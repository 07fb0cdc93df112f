-- `machine::interleaved` meets its contract: the numbers of the first i rows are written.
use mathlib.Core.Path.{◌∙◌, sym}
use Rattle.machine.proofs.Threes.{threes_none, threes_more}
use Rattle.machine.proofs.interleaved.Goals as goal

pub loop-i-init : goal.loop-i-init
loop-i-init c = c.blank-out.ensures ∙ sym (threes_none _ _ _)

pub loop-i-preserved : goal.loop-i-preserved
loop-i-preserved c =
    let a = c.args in
    threes_more a.x.now a.y.now a.z.now c.loop-i.i c.loop-i.out c.put_three.new.out c.loop-i.invariant c.put_three.ensures
