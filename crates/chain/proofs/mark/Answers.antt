-- `chain::mark` meets its contract.
use native.Mathlib.Numerals.{add-one}
use mathlib.Core.Path.{sym}
use Rattle.chain.specs.Unit.{mark}
use Rattle.chain.proofs.Pushed.{mark_stays}
use Rattle.chain.proofs.mark.Goals as goal

pub returns-then-begun-eq0 : goal.returns-then-begun-eq0
unfolding mark
returns-then-begun-eq0 c = rw (c.if-begun-eq0.true, add-one c.args.t)

pub returns : goal.returns
returns c = sym (mark_stays c.args.t c.args.begun c.if-begun-eq0.false)
