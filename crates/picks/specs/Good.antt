-- What the columns that a pick reads keep to.
use Rattle.std.specs.Prelude.{ℕ, ◌≤◌, ◌<◌, List, get_or}
use Rattle.chain.specs.declared.Job.{Job}
use Rattle.chain.specs.Job.{job_at}
use Rattle.chain.specs.Good.{GoodJob}

-- processors up to 16 for all parts, and ranks below 64 for n rows
pub record GoodHomes (homes ranks : List ℕ) (n : ℕ) : Type 0 where
  pub few : n ≤ 64
  pub on : (k : ℕ) → get_or homes k 0 ≤ 16
  pub ranked : (i : ℕ) → i < n → get_or ranks i 0 < 64

-- the jobs of n rows are good
abbrev pub GoodPlaces : List Job → ℕ → Type 0
GoodPlaces js n = (i : ℕ) → i < n → GoodJob (job_at js i)
