-- `machine::byte_of` meets its contract.
use Prim.Native.Nat.{ℕ, suc, ◌+◌, ◌*◌}
use mathlib.Core.Path.{◌≡◌, sym, ◌∙◌, ap}
use native.Mathlib.Omega.{arith}
use Rattle.chain.specs.declared.Job.{Job}
use Rattle.chain.specs.Job.{job_at}
use Rattle.jobs.specs.Numbers.{jobs_in}
use Rattle.jobs.proofs.Laws.{jobs_at_lem}
use Rattle.machine.specs.Tick.{kind_of, byte_of}
use Rattle.machine.proofs.Served.{byte_none}
use Rattle.machine.proofs.byte_of.Goals as goal

pub returns-in_default : goal.returns-in_default
returns-in_default c = byte_none (jobs_in c.args.jobs.now) c.args.row (omega arith)

pub returns : goal.returns
unfolding byte_of
returns c =
    let a = c.args in
    let i = c.in-Some.i in
    let e : a.row ≡ suc i = omega arith in
    let x : c.job_at-x.result ≡ job_at (jobs_in a.jobs.now) i = c.job_at-x.ensures ∙ sym (jobs_at_lem a.jobs.now i (omega arith)) in
    rw e (ap (λ (r : ℕ). r * 64 + i) (c.kind_of.ensures.0 ∙ ap (λ (y : Job). kind_of y.place) x))
