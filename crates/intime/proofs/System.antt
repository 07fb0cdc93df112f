-- What the proof asks of a machine: a chart, arrivals, the rows' periods and lengths, what may block a section, and the row of each rank.
use Prim.Native.Nat.{ℕ, ◌+◌, ◌*◌, ◌≤◌, ◌<◌}
use mathlib.Core.Path.{◌≡◌}
use mathlib.Core.Bool.{Bool, cond, not, ◌&&◌}
use mathlib.Core.List.{List}
use lib.ListN.{get_or}
use lib.Dec.{eqb}
use Rattle.lists.specs.Total.{total}
use Rattle.bounds.specs.Demand.{ceil}
use Rattle.chain.specs.declared.Job.{Job}
use Rattle.chain.specs.Job.{job_at}
use Rattle.chain.proofs.Row.{RowFit}
use Rattle.picks.specs.Pick.{is_section, home, pick}
use Rattle.machine.specs.declared.Chart.{Chart}
use Rattle.machine.specs.Tick.{Arrivals, jobs_at, released_at}

-- part j of row i is of the kind, a section or a stage, and on processor q
unfoldable pub on : List ℕ → Bool → ℕ → ℕ → ℕ → Bool
on homes section q i j = cond section (is_section j) (not (is_section j)) && eqb (home homes i j) q

-- the sum of f over the three parts of the first k tasks
abbrev pub sum : ℕ → (ℕ → ℕ → ℕ) → ℕ
sum k f = total k (λ r. total 3 (f r))

-- all that is asked
pub record System : Type 0 where
  pub chart : Chart
  pub ar : Arrivals
  pub period : ℕ → ℕ
  pub len : ℕ → ℕ → ℕ
  pub block : ℕ → ℕ
  pub row : ℕ → ℕ
  -- each row by itself, and the processor of each part that takes time
  pub fit : (i : ℕ) → i < chart.n → RowFit chart.bounds i (ar i) (period i) (len i)
  pub positive : (i : ℕ) → i < chart.n → 1 ≤ period i
  pub homed : (i j : ℕ) → i < chart.n → j < 3 → 1 ≤ len i j → home chart.homes i j < 17
  -- ranks and rows
  pub ranked : (i : ℕ) → i < chart.n → get_or chart.rank i 0 < chart.n
  pub rows : (r : ℕ) → r < chart.n → (row r < chart.n) × (get_or chart.rank (row r) 0 ≡ r)
  pub back : (i : ℕ) → i < chart.n → row (get_or chart.rank i 0) ≡ i
  -- a ceiling is at or above the rank of its user
  pub top : (i : ℕ) → i < chart.n → 1 ≤ len i 1 → get_or chart.top i 0 ≤ get_or chart.rank i 0
  -- no section is on a processor of a stage
  pub split : (i k j : ℕ) → i < chart.n → k < chart.n → j < 3 → (j ≡ 1 → ⊥) → 1 ≤ len i 1 → home chart.homes i 1 ≡ home chart.homes k j → ⊥
  -- a bound is not below its demand: the length, what may block a section, and the better-ranked parts of its kind there
  pub covers : (i j : ℕ) → i < chart.n → j < 3 → 1 ≤ len i j
      → len i j + cond (is_section j) (block i) 0
      + sum (get_or chart.rank i 0) (λ r e. cond (on chart.homes (is_section j) (home chart.homes i j) (row r) e) (ceil (get_or chart.bounds (3 * i + j) 0) (period (row r)) * len (row r) e) 0)
      ≤ get_or chart.bounds (3 * i + j) 0
  -- what may block a section, less the unit that it has run when it is in the way
  pub room : (k i : ℕ) → k < chart.n → i < chart.n → get_or chart.rank k 0 < get_or chart.rank i 0
      → home chart.homes i 1 ≡ home chart.homes k 1 → get_or chart.top i 0 ≤ get_or chart.rank k 0 → len i 1 ≤ block k + 1

module _ (s : System) where
  -- what it has, by short names: how many rows, the parts' processors, the rows' ranks and ceilings, and the parts' bounds
  abbrev pub count : ℕ
  count = s.chart.n

  abbrev pub homes : List ℕ
  homes = s.chart.homes

  abbrev pub rank : ℕ → ℕ
  rank i = get_or s.chart.rank i 0

  abbrev pub top_of : ℕ → ℕ
  top_of i = get_or s.chart.top i 0

  abbrev pub bound : ℕ → ℕ → ℕ
  bound i j = get_or s.chart.bounds (3 * i + j) 0

  -- the job of row i before tick t; once the releases of tick t are in; and the row, numbered from 1, that runs on q in tick t
  unfoldable pub job : ℕ → ℕ → Job
  job t i = job_at (jobs_at s.chart s.ar t) i

  unfoldable pub mid : ℕ → ℕ → Job
  mid t i = job_at (released_at s.chart s.ar t) i

  unfoldable pub runner : ℕ → ℕ → ℕ
  runner t q = pick s.chart.homes s.chart.rank s.chart.top s.chart.n (released_at s.chart s.ar t) q
