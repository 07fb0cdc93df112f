-- What every table that is read without refusal keeps to.
use Rattle.std.specs.Prelude.{ℕ, ◌+◌, ◌*◌, ◌≤◌, ◌<◌, ◌≡◌, List, length, get_or, ltb}
use Rattle.rank.specs.Rank.{ranks_of}
use Rattle.rank.specs.Ceiling.{ceilings_of}
use Rattle.table.specs.Table.{task_count, processor_count}
use Rattle.table.specs.declared.Task.{Task}
use Rattle.table.specs.declared.Table.{Table}

-- "n is 1 to 64, m 2 to 16", and the length is that of n rows
pub record GoodHeader (bs : List ℕ) : Type 0 where
  pub rows : (1 ≤ task_count bs) × (task_count bs ≤ 64)
  pub processors : (2 ≤ processor_count bs) × (processor_count bs ≤ 16)
  pub whole : length bs ≡ 2 + 11 * task_count bs

-- "T 1 to 1,000,000, resources 1 to 16. A is above 0 exactly when a resource is named. C1 + A + C2 is at least 1 and at most T."
pub record GoodTask (t : Task) : Type 0 where
  pub period : (1 ≤ t.period) × (t.period ≤ 1000000)
  pub resource : t.resource ≤ 16
  pub agree : ltb 0 t.a ≡ ltb 0 t.resource
  pub sum : (1 ≤ t.c1 + t.a + t.c2) × (t.c1 + t.a + t.c2 ≤ t.period)

-- row k of a table, counted from 0
abbrev pub task_at : Table → ℕ → Task
task_at t k =
    record {
      period = get_or t.period k 0;
      c1 = get_or t.c1 k 0;
      a = get_or t.a k 0;
      c2 = get_or t.c2 k 0;
      resource = get_or t.resource k 0;
    }

-- a table of a good header and good rows, with the ranks and ceilings that its columns give
pub record GoodTable (t : Table) : Type 0 where
  pub rows : (1 ≤ t.n) × (t.n ≤ 64)
  pub processors : (2 ≤ t.m) × (t.m ≤ 16)
  pub tasks : (k : ℕ) → k < t.n → GoodTask (task_at t k)
  pub ranks : t.rank ≡ ranks_of t.period t.n
  pub ceilings : t.ceiling ≡ ceilings_of t.resource t.rank t.n
