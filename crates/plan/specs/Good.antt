-- What the tasks of a good table keep to, and its plan.
use Rattle.std.specs.Prelude.{ℕ, ◌+◌, ◌≤◌, ◌<◌, List, ◌≡◌, get_or}
use Rattle.rank.specs.Rank.{ranks_of}
use Rattle.spread.specs.Weight.{GoodWeights}
use Rattle.plan.specs.declared.Tasks.{Tasks}
use Rattle.plan.specs.declared.Plan.{Plan}

-- tasks in rank order that keep to the paper's limits, and what is worked out of them
pub record GoodTasks (t : Tasks) : Type 0 where
  pub few : (1 ≤ t.n) × (t.n ≤ 64)
  pub processors : (2 ≤ t.m) × (t.m ≤ 16)
  pub periods : (k : ℕ) → k < t.n → (1 ≤ get_or t.period k 0) × (get_or t.period k 0 ≤ 1000000)
  pub sum : (k : ℕ) → k < t.n → get_or t.c1 k 0 + get_or t.a k 0 + get_or t.c2 k 0 ≤ get_or t.period k 0
  pub works : (k : ℕ) → k < t.n → get_or t.work k 0 ≡ get_or t.c1 k 0 + get_or t.c2 k 0
  pub resources : (k : ℕ) → k < t.n → get_or t.resource k 0 ≤ 16
  pub ranks : (periods : List ℕ) × (t.rank ≡ ranks_of periods t.n)
  pub weights : GoodWeights t.weight
  pub heaviest : (j : ℕ) → j < 16 → get_or t.heaviest j 0 ≤ 16
  pub used : t.used ≤ 16

-- the numbers of a plan of n rows can be said in their fields: 4 bits for s, 5 for a processor, 20 for a bound
pub record PlanFits (n : ℕ) (p : Plan) : Type 0 where
  pub count : p.s < 16
  pub serves : (r : ℕ) → r < 17 → get_or p.serves r 0 < 32
  pub rows : (k : ℕ) → k < n → (get_or p.processor k 0 < 32) × (get_or p.d1 k 0 < 1048576) × (get_or p.section k 0 < 1048576) × (get_or p.d2 k 0 < 1048576)
