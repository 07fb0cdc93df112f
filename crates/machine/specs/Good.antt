-- What the machine's numbers keep to.
use Rattle.std.specs.Prelude.{ℕ, zero, suc, ◌+◌, ◌*◌, ◌≤◌, ◌<◌, min, ◌≡◌, List, get_or, length}
use Rattle.chain.specs.declared.Job.{Job}
use Rattle.chain.specs.Job.{no_job, job_at}
use Rattle.chain.specs.Release.{due_of}
use Rattle.chain.specs.Good.{GoodBounds, GoodJob, Small}
use Rattle.jobs.specs.Numbers.{job_in, jobs_in}
use Rattle.picks.specs.Good.{GoodHomes}
use Rattle.arrivals.specs.declared.Arrival.{Arrival}
use Rattle.arrivals.specs.Seek.{GoodArrivals, Seek}
use Rattle.machine.specs.Chart.{Chart}

-- at most 16 processors, bounds within the longest period, and good homes and ranks
pub record GoodChart (c : Chart) : Type 0 where
  pub processors : c.m ≤ 16
  pub bounded : GoodBounds c.bounds
  pub homed : GoodHomes c.homes c.rank c.n

-- the jobs before tick t
abbrev pub GoodJobs : ℕ → ℕ → List Job → Type 0
GoodJobs n t js = (i : ℕ) → i < n → GoodJob (job_at js i) × Small t (job_at js i)

-- a good list of arrivals, and the place in it that tick t begins at
pub record Coming (n : ℕ) (xs : List Arrival) (next t : ℕ) : Type 0 where
  pub periods : List ℕ
  pub c1s : List ℕ
  pub secs : List ℕ
  pub c2s : List ℕ
  pub good : GoodArrivals n periods c1s secs c2s xs
  pub few : length xs ≤ 4096
  pub seek : Seek xs next (t * 64 + 1)

-- the next tick with a release of each row stands in a column
abbrev pub Dues : ℕ → List ℕ → List Job → List ℕ → Type 0
Dues n bounds js dues = (i : ℕ) → i < n → get_or dues i 0 ≡ due_of bounds i (job_at js i)

-- the first of the next releases of n rows; past all ticks if there is no row
unfoldable pub soonest_of : ℕ → List ℕ → ℕ
soonest_of zero dues = 4294967295
soonest_of (suc k) dues = min (get_or dues k 0) (soonest_of k dues)

-- the numbers of n rows before tick t, and the column of their next releases; past row n no task has arrived
pub record Held (n : ℕ) (bounds : List ℕ) (t : ℕ) (flat dues : List ℕ) : Type 0 where
  pub few : n ≤ 64
  pub whole : length flat ≡ 576
  pub column : length dues ≡ 64
  pub good : GoodJobs n t (jobs_in flat)
  pub past : (i : ℕ) → n ≤ i → i < 64 → job_in flat i ≡ no_job
  pub dues_are : Dues n bounds (jobs_in flat) dues
