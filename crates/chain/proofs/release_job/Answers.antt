-- `chain::release_job` meets its contract.
use mathlib.Core.Path.{refl, ap}
use native.Mathlib.Omega.{arith}
use Rattle.chain.specs.Job.{Job}
use Rattle.chain.specs.Release.{wake, late}
use Rattle.chain.proofs.Cases.{soon}
use Rattle.chain.proofs.Keeps.{ended_wake, good_released}
use Rattle.chain.proofs.release_job.Goals as goal

pub admit-job-requires : goal.admit-job-requires
admit-job-requires c =
    let n = ended_wake c.args.bounds.now c.args.i c.args.t c.args.x in
    (c.requires.2, omega (arith, n, ap (λ (y : Job). y.ended) c.wake-woken.ensures))

pub returns : goal.returns
unfolding late
returns c =
    let a = c.args in
    let s = soon a.bounds.now a.i a.t (λ y. ⊥) (wake a.bounds.now a.i a.t a.x) a.came in
    rw (c.overdue-behind.ensures, c.admit-job.ensures, c.too_soon-early.ensures, c.wake-woken.ensures, s) (refl, refl)

pub overdue-behind-requires : goal.overdue-behind-requires
overdue-behind-requires c =
    let a = c.args in
    rw (c.admit-job.ensures, c.wake-woken.ensures) (good_released a.bounds.now a.i a.t a.x c.requires.3 c.requires.2 a.came)
