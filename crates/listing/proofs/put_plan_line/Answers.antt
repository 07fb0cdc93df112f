-- `listing::put_plan_line` meets its contract.
use Rattle.listing.specs.Listing.{plan_line}
use Rattle.listing.proofs.put_plan_line.Goals as goal

pub returns : goal.returns
unfolding plan_line
returns c = c.put_line.ensures
