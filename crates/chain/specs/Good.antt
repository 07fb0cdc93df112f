-- What keeps the numbers of a job within 32 bits.
use Rattle.std.specs.Prelude.{ℕ, ◌*◌, ◌≤◌, ◌<◌, List, ◌≡◌, get_or, length}
use Rattle.chain.specs.Job.{Place, Idle, Waiting, Running, Job}

-- the bounds of 64 rows, each at most the longest period
pub record GoodBounds (bounds : List ℕ) : Type 0 where
  pub whole : length bounds ≡ 192
  pub small : (k : ℕ) → get_or bounds k 0 ≤ 1000000

-- the part that a place speaks of
abbrev pub part_of : Place → ℕ
part_of Idle = 0
part_of (Waiting u j) = j
part_of (Running j l) = j

-- a job that arrived in one of a million ticks, and is at one of its three parts
pub record GoodJob (x : Job) : Type 0 where
  pub arrived : x.arrived ≤ 1000000
  pub part : part_of x.place < 3

-- the counts of a job before tick t: at most three ends a tick, and one unit; and its begun mark, one more than a tick before
pub record Small (t : ℕ) (x : Job) : Type 0 where
  pub ended : x.ended ≤ 3 * t
  pub ran : x.ran ≤ t
  pub begun : x.begun ≤ t

-- k ticks are left of the part that a job runs
abbrev pub Lasts : ℕ → Place → Type 0
Lasts k p = (j l : ℕ) → p ≡ Running j l → k ≤ l
