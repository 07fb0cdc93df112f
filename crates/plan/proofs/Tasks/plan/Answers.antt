-- `plan::Tasks::plan` meets its contract. The loop's invariant: no trial before s succeeds.
use mathlib.Core.Path.{◌≡◌, sym, ◌∙◌, ap}
use native.Mathlib.Omega.{arith}
use Rattle.plan.specs.Planning.{is_planned, last_trial}
use Rattle.plan.proofs.Trials.{trials_some, planning_found, planning_none, none_more}
use Rattle.plan.proofs.Tasks.plan.Goals as goal

pub returns-in_default : goal.returns-in_default
returns-in_default c =
    let t = c.args.self.now in
    let l = c.loop-s in
    let e = c.trial-tried.ensures in
    e ∙ sym (planning_found t l.s (omega arith) (omega arith) l.invariant (ap is_planned (sym e) ∙ ap is_planned c.in_default.is))

pub returns-in-Err : goal.returns-in-Err
returns-in-Err c =
    let t = c.args.self.now in
    let s = c.loop-s.s in
    let e = sym c.in-Err.is ∙ c.trial-tried.ensures in
    let none = none_more t s c.loop-s.invariant (ap is_planned (sym e)) in
    let z : s ≡ last_trial t = omega arith in
    rw z at e ∙ sym (planning_none t (trials_some t c.requires.processors.0) (rw z at none))
