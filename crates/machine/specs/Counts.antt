-- What a run counts: "jobs ended, units run, and units owed".
use Rattle.std.specs.Prelude.{ℕ, List}
use Rattle.lists.specs.Total.{total}
use Rattle.chain.specs.declared.Job.{Job}
use Rattle.chain.specs.Job.{job_at}
use Rattle.chain.specs.Owed.{owes}
pub use Rattle.machine.specs.declared.Tally.{Tally}

-- the sums over n rows
unfoldable pub tally_of : ℕ → List Job → Tally
tally_of n js =
    record {
      jobs = total n (λ i. (job_at js i).ended);
      run = total n (λ i. (job_at js i).ran);
      owed = total n (λ i. owes (job_at js i).lens (job_at js i).place);
    }
