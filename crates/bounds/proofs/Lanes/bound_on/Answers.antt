-- `bounds::Lanes::bound_on` meets its contract. The part that is lent is what is in use of the lane.
use Prim.Native.Nat.{◌+◌, ◌-◌, ◌*◌}
use mathlib.Core.Path.{◌≡◌}
use native.Mathlib.Omega.{arith}
use lib.ListN.{get_or, drop}
use Rattle.std.proofs.lemmas.List.{length-take}
use Rattle.bounds.specs.Terms.{lane}
use Rattle.bounds.proofs.Lanes.bound_on.Goals as goal

pub bound_of-requires : goal.bound_of-requires
unfolding lane
bound_of-requires c =
    let n = get_or c.args.self.now.count c.args.p 0 in
    let e : 64 * c.args.p + n - 64 * c.args.p ≡ n = omega arith in
    rw e (omega (arith, length-take n (drop (64 * c.args.p) c.args.self.now.terms)), omega arith, omega arith, omega arith, c.requires.5)

pub returns : goal.returns
unfolding lane
returns c =
    let n = get_or c.args.self.now.count c.args.p 0 in
    let e : 64 * c.args.p + n - 64 * c.args.p ≡ n = omega arith in
    rw e at c.bound_of.ensures
