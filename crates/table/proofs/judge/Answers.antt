-- `table::judge` meets its contract. Each return has the tests that led there.
use mathlib.Core.Bool.{xor}
use mathlib.Core.Path.{sym, ◌∙◌}
use borrow.Author.Tests.{lt-ltb, le-ltb}
use Rattle.table.specs.Row.{judged}
use Rattle.table.proofs.judge.Goals.{then-t-gt16-via-then-t-gt16, then-t-gt16-via-else-t-gt16+then-spare-gt0}
use Rattle.table.proofs.judge.Goals as goal

pub returns-then-outside : goal.returns-then-outside
unfolding judged
returns-then-outside c = simp (sym c.outside.ensures ∙ c.if-outside.true)

pub returns-then-t-gt16 : goal.returns-then-t-gt16
unfolding judged
returns-then-t-gt16 c =
    let e = sym c.outside.ensures ∙ c.if-outside.false in
    elim c.then-t-gt16.branch [
      | then-t-gt16-via-then-t-gt16 w ↦ simp (e, lt-ltb _ _ w.if-t-gt16.true)
      | then-t-gt16-via-else-t-gt16+then-spare-gt0 w ↦ simp (e, le-ltb _ _ w.if-t-gt16.false, lt-ltb _ _ w.if-spare-gt0.true)
    ]

pub returns-then-t : goal.returns-then-t
unfolding judged xor
returns-then-t c =
    simp (sym c.outside.ensures ∙ c.if-outside.false, le-ltb _ _ c.if-t-gt16.false, le-ltb _ _ c.if-spare-gt0.false, c.if-t.true)

pub returns-then-outside-2 : goal.returns-then-outside-2
unfolding judged xor
returns-then-outside-2 c =
    simp (sym c.outside.ensures ∙ c.if-outside.false, le-ltb _ _ c.if-t-gt16.false, le-ltb _ _ c.if-spare-gt0.false, c.if-t.false, sym c.outside-2.ensures ∙ c.if-outside-2.true)

pub returns : goal.returns
unfolding judged xor
returns c =
    simp (sym c.outside.ensures ∙ c.if-outside.false, le-ltb _ _ c.if-t-gt16.false, le-ltb _ _ c.if-spare-gt0.false, c.if-t.false, sym c.outside-2.ensures ∙ c.if-outside-2.false)
