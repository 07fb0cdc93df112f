-- `chain::due_of` meets its contract.
use native.Mathlib.Numerals.{add-one}
use borrow.Author.Tests.{lt-ltb, le-ltb}
use Rattle.chain.specs.Release.{due_at}
use Rattle.chain.proofs.due_of.Goals as goal

pub returns-in-Idle : goal.returns-in-Idle
unfolding due_at
returns-in-Idle c = rw c.in-Idle.is

pub returns-in-Waiting : goal.returns-in-Waiting
unfolding due_at
returns-in-Waiting c = rw c.in-Waiting.is

pub returns-in-Running : goal.returns-in-Running
unfolding due_at
returns-in-Running c = rw (c.in-Running.is, lt-ltb c.in-Running.part 2 c.if-part-lt2.true, c.release_of.ensures.0, add-one)

pub returns-in-Running-2 : goal.returns-in-Running-2
unfolding due_at
returns-in-Running-2 c = rw (c.in-Running.is, le-ltb c.in-Running.part 2 c.if-part-lt2.false)
