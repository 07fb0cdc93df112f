-- `sheet::put_resources` meets its contract: 80 bits are two words.
use mathlib.Core.List.{List, ◌++◌}
use mathlib.Core.Path.{◌≡◌, sym, ◌∙◌, ap}
use Prim.Native.Nat.{ℕ}
use lib.Seq.{sets}
use Rattle.sheet.specs.Fields.{bytes_of}
use Rattle.sheet.specs.Sheet.{resource_bytes}
use Rattle.lists.proofs.Sets.{sets_then}
use Rattle.sheet.proofs.Bytes.{length-bytes}
use Rattle.sheet.proofs.Words.{resource_words}
use Rattle.sheet.proofs.put_resources.Goals as goal

pub returns : goal.returns
returns c =
    let x = c.eight.result in
    let y = c.eight-2.result in
    let e : bytes_of 5 x ++ bytes_of 5 y ≡ resource_bytes c.args.serves.now = rw (c.eight.ensures, c.eight-2.ensures) (sym (resource_words c.args.serves.now c.requires.1)) in
    sets_then c.args.part.now 2 5 (bytes_of 5 x) (bytes_of 5 y) (length-bytes 5 x) c.put_word.ensures c.put_word-2.ensures
    ∙ ap (λ (u : List ℕ). sets c.args.part.now 2 u) e
