-- `chain::wake` meets its contract.
use mathlib.Core.Logic.{inl, inr}
use mathlib.Core.Path.{sym, ap, ◌∙◌}
use borrow.Author.Tests.{le-leb, lt-leb}
use Rattle.chain.specs.Release.{wake_at}
use Rattle.chain.proofs.wake.Goals as goal

pub returns-in-Idle : goal.returns-in-Idle
unfolding wake_at
returns-in-Idle c =
    let a = c.args in
    elim c.in-Idle.is [ inl e ↦ sym (ap (wake_at a.row.bounds.now a.row.i a.t a.x) e) | inr w ↦ sym (ap (wake_at a.row.bounds.now a.row.i a.t a.x) w.2) ]

pub returns-then-t-until : goal.returns-then-t-until
unfolding wake_at
returns-then-t-until c =
    let a = c.args in
    sym (ap (wake_at a.row.bounds.now a.row.i a.t a.x) c.in-Waiting.is ∙ rw (lt-leb c.in-Waiting.until a.t c.if-t-until.true))

pub returns-else-t-until : goal.returns-else-t-until
unfolding wake_at
returns-else-t-until c = rw (c.in-Waiting.is, le-leb c.in-Waiting.until c.args.t c.if-t-until.false, c.moved.ensures, c.enter-q.ensures)
