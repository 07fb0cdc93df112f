-- `bounds::Lanes::new` meets its contract.
use mathlib.Core.Path.{refl}
use Rattle.lists.specs.Tab.{blank}
use Rattle.bounds.proofs.Lanes.new.Goals as goal

pub returns : goal.returns
unfolding blank
returns c = (refl, c.blank.ensures)
