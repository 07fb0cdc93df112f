-- `chain::after` meets its contract.
use native.Mathlib.Numerals.{add-one}
use borrow.Author.Tests.{lt-ltb, le-ltb}
use Rattle.chain.specs.Unit.{next}
use Rattle.chain.proofs.after.Goals as goal

pub returns-then-part-ge2 : goal.returns-then-part-ge2
unfolding next
returns-then-part-ge2 c = rw (le-ltb c.args.part 2 c.if-part-ge2.true)

pub returns : goal.returns
unfolding next
returns c = rw (lt-ltb c.args.part 2 c.if-part-ge2.false, c.release_of-until.ensures.0, add-one)
