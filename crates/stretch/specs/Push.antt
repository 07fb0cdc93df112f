-- Rows that run on as they do.
use Rattle.std.specs.Prelude.{ℕ, suc, ◌≤◌, ◌<◌, ◌≡◌, cond, List, get_or, eqb}
use Rattle.lists.specs.Tab.{filled}
use Rattle.chain.specs.declared.Place.{Place}
use Rattle.chain.specs.declared.Place.TheVariants.{Idle, Waiting, Running}
use Rattle.chain.specs.declared.Job.{Job}
use Rattle.chain.specs.Job.{no_job, job_at}
use Rattle.chain.specs.Good.{GoodJob, Lasts}
use Rattle.chain.specs.Unit.{pushed}
use Rattle.picks.specs.Pick.{home}

-- what a job of this rank and ceiling runs lasts for k ticks, and a section not begun has a ceiling no worse than the rank
abbrev pub Goes : ℕ → ℕ → ℕ → Job → Place → Type 0
Goes rank top k x Idle = Unit {0}
Goes rank top k x (Waiting u j) = Unit {0}
Goes rank top k x (Running j l) = (k ≤ l) × (j ≡ 1 → x.begun ≡ 0 → top ≤ rank)

-- a job of tick t that has k ticks left of what it runs
pub record Ready (t k : ℕ) (x : Job) : Type 0 where
  pub good : GoodJob x
  pub lasts : Lasts k x.place
  pub ended : x.ended < 4294967295
  pub ran : x.ran ≤ t

-- row i runs a part on processor q, and k ticks of it are left
pub record Picked (homes : List ℕ) (js : List Job) (t k q i : ℕ) : Type 0 where
  pub part : ℕ
  pub left : ℕ
  pub place_is : (job_at js i).place ≡ Running part left
  pub home_is : home homes i part ≡ q
  pub ready : Ready t k (job_at js i)

-- each processor picks a row that runs a part there, or none
abbrev pub Picks : List ℕ → List ℕ → ℕ → ℕ → List Job → Type 0
Picks rows homes t k js = (q i : ℕ) → q < 17 → get_or rows q 0 ≡ suc i → (i < 64) × Picked homes js t k q i

module _ (rows homes : List ℕ) where
  -- row i's job when its part, where a processor picks it, has run k units from tick t on, and has not ended
  unfoldable pub push_row_at : ℕ → ℕ → ℕ → Job → Place → Job
  push_row_at t k i x Idle = x
  push_row_at t k i x (Waiting u j) = x
  push_row_at t k i x (Running j l) = cond (eqb (get_or rows (home homes i j) 0) (suc i)) (pushed t k x j l) x

  abbrev pub push_row : ℕ → ℕ → ℕ → Job → Job
  push_row t k i x = push_row_at t k i x x.place

  -- the jobs of n rows so
  unfoldable pub push_all : ℕ → ℕ → ℕ → List Job → List Job
  push_all n t k js = filled 64 no_job n (λ i. push_row t k i (job_at js i))
