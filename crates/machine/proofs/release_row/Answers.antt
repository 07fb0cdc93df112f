-- `machine::release_row` meets its contract.
use Prim.Native.Nat.{ℕ, ◌*◌, ◌<◌}
use mathlib.Core.Path.{◌≡◌, ap}
use mathlib.Core.List.{List}
use Rattle.std.specs.Prelude.{Option}
use native.Mathlib.Omega.{arith}
use borrow.Author.Rules.{rules}
use lib.ListN.{length, set}
use lib.Seq.{sets}
use Rattle.chain.specs.Release.{released, due_of}
use Rattle.chain.specs.declared.Job.{Job}
use Rattle.chain.specs.Good.{GoodJob}
use Rattle.chain.proofs.Keeps.{good_released}
use Rattle.jobs.specs.Numbers.{numbers_of, job_in, jobs_in}
use Rattle.jobs.proofs.Laws.{jobs_put}
use Rattle.machine.proofs.release_row.Goals as goal

pub release_job-r-requires : goal.release_job-r-requires
release_job-r-requires c =
    rw c.job_at-x.ensures (c.requires.0, c.requires.2, omega arith, c.requires.3, c.requires.4)

module _ (bounds jobs : List ℕ) (i t : ℕ) (came : Option (List ℕ)) {x y : Job} (read : x ≡ job_in jobs i) (made : y ≡ released bounds i t x came) (was : GoodJob (job_in jobs i)) (early : t < 1000000) where
  -- the job that the releases give
  out : y ≡ released bounds i t (job_in jobs i) came
  out = rw read at made

  -- is good
  good_out : GoodJob y
  good_out = rw out (good_released bounds i t (job_in jobs i) was (omega arith) came)

  -- it stands in the row's numbers once it is put there, and its next release in the row's place
  stored : {next due' : List ℕ} (due : List ℕ) → i < 64 → length jobs ≡ 576 → length y.lens ≡ 3 → next ≡ sets jobs (9 * i) (numbers_of y) → due' ≡ set due i (due_of bounds i y)
      → (jobs_in next ≡ set (jobs_in jobs) i (released bounds i t (job_in jobs i) came)) × (due' ≡ set due i (due_of bounds i (released bounds i t (job_in jobs i) came)))
  stored due h size three put d = (rw (put, jobs_put jobs i y h size good_out.part three, out), rw out at d)

pub put_job-requires : goal.put_job-requires
put_job-requires c =
    let a = c.args in
    (c.requires.0, (good_out a.bounds.now a.jobs.now a.i a.t a.came c.job_at-x.ensures c.release_job-r.ensures.0 c.requires.3 c.requires.1).part)

pub due_of-requires : goal.due_of-requires
due_of-requires c =
    let a = c.args in
    let good = good_out a.bounds.now a.jobs.now a.i a.t a.came c.job_at-x.ensures c.release_job-r.ensures.0 c.requires.3 c.requires.1 in
    (c.requires.0, c.requires.2, good)

pub returns-then-r-clause-released : goal.returns-then-r-clause-released
returns-then-r-clause-released c =
    let a = c.args in
    let size : length a.jobs.now ≡ 576 = search rules in
    let three : length c.release_job-r.result.job.lens ≡ 3 = search rules in
    stored a.bounds.now a.jobs.now a.i a.t a.came c.job_at-x.ensures c.release_job-r.ensures.0 c.requires.3 c.requires.1 a.due.now c.requires.0 size three c.put_job.ensures (ap (set a.due.now a.i) c.due_of.ensures)

pub returns-clause-released : goal.returns-clause-released
returns-clause-released c =
    let a = c.args in
    let size : length a.jobs.now ≡ 576 = search rules in
    let three : length c.release_job-r.result.job.lens ≡ 3 = search rules in
    stored a.bounds.now a.jobs.now a.i a.t a.came c.job_at-x.ensures c.release_job-r.ensures.0 c.requires.3 c.requires.1 a.due.now c.requires.0 size three c.put_job.ensures (ap (set a.due.now a.i) c.due_of.ensures)
