-- `sheet::put_task` meets its contract: 72 bits are two words.
use mathlib.Core.List.{List}
use mathlib.Core.Path.{sym, ◌∙◌, ap}
use Prim.Native.Nat.{ℕ, ◌+◌, ◌*◌, ◌/◌, ◌%◌}
use native.Mathlib.Omega.{arith}
use lib.Seq.{sets}
use Rattle.sheet.specs.Fields.{bytes_of}
use Rattle.lists.proofs.Sets.{sets_then}
use Rattle.sheet.proofs.Bytes.{length-bytes}
use Rattle.sheet.proofs.Words.{task_words}
use Rattle.sheet.proofs.put_task.Goals as goal

pub returns : goal.returns
returns c =
    let a = c.args in
    let x = (a.processor * 1048576 + a.d1) * 32768 + a.section / 32 in
    let y = (a.section % 32 * 1048576 + a.d2) * 128 in
    sets_then a.part.now a.at 5 (bytes_of 5 x) (bytes_of 4 y) (length-bytes 5 x) c.put_word.ensures c.put_word-2.ensures
    ∙ ap (λ (u : List ℕ). sets a.part.now a.at u) (sym (task_words a.processor a.d1 a.section a.d2 (omega arith)))
