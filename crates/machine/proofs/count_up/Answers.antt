-- `machine::count_up` meets its contract: the sums of the first i jobs are counted.
use mathlib.Core.Path.{sym, ◌∙◌, refl}
use native.Mathlib.Omega.{arith}
use Rattle.jobs.specs.Numbers.{jobs_in}
use Rattle.jobs.proofs.Laws.{jobs_at_lem}
use Rattle.lists.specs.Total.{total}
use Rattle.machine.specs.Counts.{tally_of}
use Rattle.machine.proofs.Served.{tally_more}
use Rattle.machine.proofs.count_up.Goals as goal

pub loop-i-init : goal.loop-i-init
unfolding tally_of total
loop-i-init c = (refl, omega arith, omega arith, omega arith)

pub loop-i-preserved : goal.loop-i-preserved
loop-i-preserved c =
    let l = c.loop-i in
    let js = c.args.jobs.now in (
      rw (c.from.ensures, c.from-in-loop-i.ensures, c.owed.ensures.0)
          (tally_more (jobs_in js) l.i c.job_at-x.result l.tally (c.job_at-x.ensures ∙ sym (jobs_at_lem js l.i (omega arith))) l.invariant.0),
      omega arith,
      omega arith,
      omega arith,
    )
