-- `listing::put_refused` meets its contract.
use Rattle.listing.specs.Listing.{refused_line}
use Rattle.listing.proofs.put_refused.Goals as goal

pub returns : goal.returns
unfolding refused_line
returns c = c.put_line.ensures
