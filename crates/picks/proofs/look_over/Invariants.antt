-- `picks::look_over` meets its contract. The loop's invariant: the array has what each processor has to choose from among the first i rows.
use Rattle.jobs.specs.Numbers.{jobs_in}
use Rattle.picks.proofs.Columns.{Columns}
use Rattle.picks.proofs.look_over.Given as goal

abbrev pub invariant-loop-i : goal.invariant-loop-i
invariant-loop-i l = Columns l.homes l.rank l.top (jobs_in l.jobs) l.i l.offers
