-- `listing::put_resources` meets its contract. The loop's invariant: the lines of resources 1 to i are written, in at most 31 bytes each.
use Prim.Native.Nat.{ℕ, ◌+◌}
use mathlib.Core.Path.{◌≡◌}
use mathlib.Core.List.{List}
use native.Mathlib.Omega.{arith}
use Rattle.lists.specs.Tab.{joined}
use Rattle.lists.proofs.Joined.{joined_more}
use Rattle.listing.specs.Listing.{resource_line, resource_lines}
use Rattle.listing.proofs.Text.{then, wrote_nothing}
use Rattle.listing.proofs.put_resources.Goals as goal

pub loop-i-init : goal.loop-i-init
unfolding resource_lines joined
loop-i-init c =
    let a = c.args in
    (wrote_nothing a.out.now a.at, omega arith)

pub loop-i-preserved : goal.loop-i-preserved
unfolding resource_lines
loop-i-preserved c =
    let l = c.loop-i in
    let f : ℕ → List ℕ = λ i. resource_line c.args.serves.now (i + 1) in
    (rw (joined_more l.i f) (then (joined l.i f) (f l.i) l.invariant.0 c.put_resource-end.ensures.0), omega (arith, c.put_resource-end.ensures.1))

pub returns : goal.returns
returns c =
    let l = c.loop-i in
    let q : l.i ≡ 16 = omega arith in
    (rw q at l.invariant.0, omega arith)
