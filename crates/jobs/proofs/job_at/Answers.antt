-- `jobs::job_at` meets its contract.
use Rattle.jobs.specs.Numbers.{job_in}
use Rattle.jobs.proofs.job_at.Goals as goal

pub returns : goal.returns
unfolding job_in
returns c = rw c.place_in.ensures
