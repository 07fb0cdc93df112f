-- `sheet::eight` meets its contract. The loop's invariant: the word says the first fields.
use Prim.Native.Nat.{◌+◌}
use native.Mathlib.Omega.{arith}
use borrow.Author.Rules.{rules}
use Rattle.lists.specs.Tab.{tab}
use Rattle.sheet.specs.Fields.{behind}
use Rattle.sheet.specs.Sheet.{processor_fields}
use Rattle.sheet.proofs.Words.{processors_more, processors-lt, length_eight, one_of_eight}
use Rattle.sheet.proofs.eight.Goals as goal

pub loop-processor-init : goal.loop-processor-init
unfolding behind processor_fields tab
loop-processor-init c = search rules

pub overflow_mul-word : goal.overflow_mul-word
overflow_mul-word c =
    let a = c.args in
    let n = length_eight a.serves.now a.ahead (omega arith) (omega arith) in
    omega (arith, processors-lt a.serves.now c.requires.1 a.ahead c.loop-processor.processor-index (omega arith) (omega arith))

pub overflow_add-word : goal.overflow_add-word
overflow_add-word c =
    let a = c.args in
    let i = c.loop-processor.processor-index in
    let n = length_eight a.serves.now a.ahead (omega arith) (omega arith) in
    let x = one_of_eight a.serves.now a.ahead i (omega arith) in
    omega (arith, c.requires.1 (a.ahead + i + 1) (omega arith), processors-lt a.serves.now c.requires.1 a.ahead i (omega arith) (omega arith))

pub loop-processor-preserved : goal.loop-processor-preserved
loop-processor-preserved c =
    let a = c.args in
    let i = c.loop-processor.processor-index in
    let n = length_eight a.serves.now a.ahead (omega arith) (omega arith) in
    let x = one_of_eight a.serves.now a.ahead i (omega arith) in
    omega (arith, processors_more a.serves.now a.ahead i)
