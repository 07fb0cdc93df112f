-- `stages::first_fit` meets its contract. The loop's invariant: no processor before p has a fit, and the value is the smallest of theirs.
use Prim.Native.Nat.{◌+◌}
use mathlib.Core.Path.{◌≡◌, sym, ◌∙◌, ap}
use native.Mathlib.Omega.{arith}
use Rattle.stages.specs.Fit.{nowhere, is_fit}
use Rattle.stages.proofs.Fitting.{no_fit_more, least_more, least_end, place_at, place_none}
use Rattle.stages.proofs.first_fit.Invariants.{fits}
use Rattle.stages.proofs.first_fit.Goals as goal

pub returns-in-Ok : goal.returns-in-Ok
returns-in-Ok c =
    let a = c.args in
    let l = c.loop-p in
    sym (place_at (fits a.lanes.now a.need.c1 a.need.c2 a.need.section a.need.period) a.s a.m l.p c.in-Ok.pair.d1 c.in-Ok.pair.d2 (omega arith) (omega arith) l.invariant.0 (sym c.in-Ok.ensures))

pub loop-p-preserved : goal.loop-p-preserved
loop-p-preserved c =
    let a = c.args in
    let l = c.loop-p in
    let fit = fits a.lanes.now a.need.c1 a.need.c2 a.need.section a.need.period in (
      no_fit_more fit a.s a.m l.p l.invariant.0 (ap is_fit (sym c.in-Err.ensures)),
      least_more fit a.s a.m l.p c.in-Err.broke.value c.lower.result l.least (omega arith) (sym c.in-Err.ensures) l.invariant.1 c.lower.ensures,
    )

pub returns : goal.returns
returns c =
    let a = c.args in
    let l = c.loop-p in
    let q : l.p ≡ a.m + 1 = omega arith in
    let fit = fits a.lanes.now a.need.c1 a.need.c2 a.need.section a.need.period in
    sym (place_none fit a.s a.m (omega arith) (rw q at l.invariant.0) ∙ ap nowhere (least_end fit a.s a.m c.unwrap.result l.least (omega arith) (rw q at l.invariant.1) c.unwrap.ensures))
