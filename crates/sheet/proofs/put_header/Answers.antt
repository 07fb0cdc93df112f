-- `sheet::put_header` meets its contract: the header is one word.
use mathlib.Core.List.{List}
use mathlib.Core.Path.{sym, ◌∙◌, ap}
use Prim.Native.Nat.{ℕ}
use lib.Seq.{sets}
use Rattle.sheet.proofs.Words.{header_word}
use Rattle.sheet.proofs.put_header.Goals as goal

pub returns : goal.returns
returns c =
    let w = c.put_word in
    let a = c.args in
    w.ensures ∙ ap (λ (u : List ℕ). sets a.part.now 0 u) (sym (header_word a.n a.m a.s))
