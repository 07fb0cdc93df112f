-- `sheet::put_word` meets its contract. The loop's invariant: with what is left of the number stored, all of it is.
use Prim.Native.Nat.{ℕ}
use mathlib.Core.Path.{◌≡◌, sym, ◌∙◌, ap}
use native.Mathlib.Omega.{arith}
use lib.ListN.{length-set}
use lib.Seq.{sets}
use Rattle.sheet.specs.Fields.{bytes_of}
use Rattle.sheet.proofs.Bytes.{sets-bytes}
use Rattle.sheet.proofs.put_word.Goals as goal

pub loop-left-preserved : goal.loop-left-preserved
loop-left-preserved c =
    let l = c.loop-left in
    let a = c.args in
    (simp length-set l.invariant.0, sets-bytes l.part a.at l.left l.rest (omega arith) ∙ l.invariant.1)

pub returns : goal.returns
unfolding bytes_of
returns c =
    let l = c.loop-left in
    let a = c.args in
    let z : l.left ≡ 0 = omega arith in
    ap (λ (k : ℕ). sets l.part a.at (bytes_of k l.rest)) (sym z) ∙ l.invariant.1
