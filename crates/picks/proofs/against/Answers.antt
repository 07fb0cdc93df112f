-- `picks::against` meets its contract.
use native.Mathlib.Numerals.{add-one}
use Rattle.std.proofs.Common.{rules, Fits, w32}
use Rattle.picks.specs.Offer.{against}
use Rattle.picks.proofs.against.Goals as goal
use Rattle.picks.proofs.against.Goals.{in_default-via-in-Some+else-not-ahead, in_default-via-in_default}

pub returns-in-Some : goal.returns-in-Some
unfolding against
returns-in-Some g c = λ order says.
    let f : Fits w32 c.in-Some.best.key = search rules in
    let r = says c.in-Some.best.key f.fits c.ahead.result c.ahead.ensures in
    rw (c.in-Some.is, ← r, c.if-not-ahead.true)

pub returns : goal.returns
unfolding against
returns g c = λ order says.
    elim c.in_default.branch [
      | in_default-via-in-Some+else-not-ahead w ↦
          let f : Fits w32 w.in-Some.best.key = search rules in
          let r = says w.in-Some.best.key f.fits w.ahead.result w.ahead.ensures in
          rw (w.in-Some.is, ← r, w.if-not-ahead.false, add-one)
      | in_default-via-in_default w ↦ rw (w.in_default.is, add-one)
    ]
