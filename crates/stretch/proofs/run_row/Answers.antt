-- `stretch::run_row` meets its contract.
use mathlib.Core.Path.{◌≡◌, ◌∙◌, ap}
use borrow.Author.Rules.{rules}
use lib.ListN.{length, set}
use Rattle.chain.specs.Release.{due_of}
use Rattle.stretch.proofs.Running.{push_fits, push_good, push_ended, push_ran, good_served, jobs_served, job_served}
use Rattle.stretch.proofs.run_row.Goals as goal

pub push-y-requires : goal.push-y-requires
push-y-requires c = push_fits c.requires.4 c.job_at-x.ensures c.requires.1

pub serve_job-z-requires : goal.serve_job-z-requires
serve_job-z-requires c =
    let r = c.requires.4 in
    let e = c.job_at-x.ensures in
    let f = c.push-y.ensures in
    (c.requires.0, c.requires.1, c.requires.2, c.requires.3, push_good r e f, push_ended r e f, push_ran r e f c.requires.1)

pub put_job-requires : goal.put_job-requires
put_job-requires c =
    (c.requires.0, (good_served _ _ _ _ _ c.requires.4 c.job_at-x.ensures c.push-y.ensures c.serve_job-z.ensures).part)

pub due_of-requires : goal.due_of-requires
due_of-requires c =
    (c.requires.0, c.requires.2, good_served _ _ _ _ _ c.requires.4 c.job_at-x.ensures c.push-y.ensures c.serve_job-z.ensures)

pub returns : goal.returns
returns c =
    let a = c.args in
    let size : length a.jobs.now ≡ 576 = search rules in
    let put = c.put_job.ensures in (
      jobs_served _ _ _ _ _ c.requires.4 c.job_at-x.ensures c.push-y.ensures c.serve_job-z.ensures c.requires.0 size put,
      ap (set a.due.now a.i)
          (c.due_of.ensures
          ∙ ap (due_of a.c.now.bounds a.i) (job_served _ _ _ _ _ c.requires.4 c.job_at-x.ensures c.push-y.ensures c.serve_job-z.ensures c.requires.0 size put)),
    )
