-- `chain::unit` meets its contract.
use borrow.Author.Tests.{lt-ltb, le-ltb}
use Rattle.chain.specs.Unit.{unit_of}
use Rattle.chain.proofs.unit.Goals as goal

pub returns-then-left-gt1 : goal.returns-then-left-gt1
unfolding unit_of
returns-then-left-gt1 c = rw (lt-ltb 1 c.args.left c.if-left-gt1.true) c.running.ensures

pub returns : goal.returns
unfolding unit_of
returns c =
    rw (le-ltb 1 c.args.left c.if-left-gt1.false, ← c.after-p.ensures, ← c.running-ran.ensures) c.moved.ensures
