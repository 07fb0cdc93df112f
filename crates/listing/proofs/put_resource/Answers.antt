-- `listing::put_resource` meets its contract.
use native.Mathlib.Omega.{arith}
use borrow.Author.Tests.{lt-ltb, le-ltb}
use lib.ListN.{get_or}
use Rattle.listing.specs.Listing.{resource_line}
use Rattle.listing.proofs.Text.{wrote_nothing}
use Rattle.listing.proofs.put_resource.Goals as goal

pub returns-then-processor-eq0 : goal.returns-then-processor-eq0
unfolding resource_line
returns-then-processor-eq0 c =
    let a = c.args in
    (rw (le-ltb 0 (get_or a.serves.now a.r 0) (omega arith)) (wrote_nothing a.out.now a.at), omega arith)

pub returns : goal.returns
unfolding resource_line
returns c =
    let p = c.put_line.ensures in
    let a = c.args in
    (rw (lt-ltb 0 (get_or a.serves.now a.r 0) (omega arith)) p.0, omega arith)
