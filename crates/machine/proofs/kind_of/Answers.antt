-- `machine::kind_of` meets its contract.
use mathlib.Core.Path.{sym, ◌∙◌, ap}
use native.Mathlib.Omega.{arith}
use native.Mathlib.Numerals.{add-one}
use Rattle.machine.specs.Tick.{kind_of}
use Rattle.chain.proofs.Places.{part_small}
use Rattle.machine.proofs.kind_of.Goals as goal

pub returns-in-Running : goal.returns-in-Running
unfolding kind_of
returns-in-Running c =
    (add-one c.in-Running.part ∙ sym (ap kind_of c.in-Running.is), omega (arith, part_small c.args.p c.in-Running.part c.in-Running.left c.requires c.in-Running.is))
