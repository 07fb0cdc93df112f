-- `chain::overdue` meets its contract.
use mathlib.Core.Logic.{inl, inr}
use native.Mathlib.Numerals.{add-one}
use borrow.Author.Tests.{lt-ltb, le-ltb}
use Rattle.chain.specs.Release.{overdue_at}
use Rattle.chain.proofs.overdue.Goals as goal

pub returns-in-Idle : goal.returns-in-Idle
unfolding overdue_at
returns-in-Idle c = elim c.in-Idle.is [ inl e ↦ rw e | inr w ↦ rw w.2 ]

pub returns-then-part-lt2 : goal.returns-then-part-lt2
unfolding overdue_at
returns-then-part-lt2 c = rw (c.in-Running.is, lt-ltb c.in-Running.part 2 c.if-part-lt2.true, c.release_of.ensures.0, add-one)

pub returns-else-part-lt2 : goal.returns-else-part-lt2
unfolding overdue_at
returns-else-part-lt2 c = rw (c.in-Running.is, le-ltb c.in-Running.part 2 c.if-part-lt2.false)
