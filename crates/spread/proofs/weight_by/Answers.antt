-- `spread::weight_by` meets its contract.
use mathlib.Core.Path.{◌≡◌, sym}
use Prim.Native.Nat.{◌*◌}
use mathlib.Core.Bool.{true}
use native.Mathlib.Omega.{arith}
use Rattle.bounds.specs.Demand.{ceil}
use Rattle.rank.specs.Ceiling.{uses}
use Rattle.spread.proofs.Weight.{rounded, user_le}
use Rattle.spread.proofs.weight_by.Goals as goal

pub returns : goal.returns
returns c =
    let a = c.args in
    let p : c.div_ceil.result ≡ ceil (a.section * 1000000) a.period = rounded (a.section * 1000000) a.period c.div_ceil.ensures (omega (arith, c.from.ensures)) c.from-2.ensures c.requires.0 in
    let u : uses a.named a.r ≡ true = sym c.if-not-uses.ensures in
    (rw (u, p), rw p (user_le a.section a.period c.requires.0 c.requires.2))
