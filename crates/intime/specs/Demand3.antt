-- Demand 3. To be read as the paper is: `A → B` says "if A then B", `(x : ℕ) × ..` "there is an x with ..", `×` "and", `⊎` "or";
-- `get_or list i 0` is what stands at place i of a list. Rows count from 0. Part 0 of a row's chain is stage one, part 1 its section,
-- part 2 its stage two. The machine is that of crates/machine/specs/Tick.antt, which the run's contract cites; tables and plans are
-- those of the reader's and the planner's contracts. The proof begins at proofs/Theorem.antt.
use Rattle.std.specs.Prelude.{ℕ, zero, suc, ◌+◌, ◌*◌, ◌≤◌, ◌<◌, ◌≡◌, true, List, Some, ◌⊎◌, get_or}
use Rattle.table.specs.declared.Table.{Table}
use Rattle.table.specs.Table.{reading_of, number_in, table_in}
use Rattle.table.specs.Good.{GoodTable}
use Rattle.plan.specs.declared.Plan.{Plan}
use Rattle.plan.specs.Trial.{plan_in}
use Rattle.plan.specs.Planning.{is_planned, planned_of}
use Rattle.arrivals.specs.declared.Arrival.{Arrival}
use Rattle.chain.specs.declared.Place.{Place}
use Rattle.chain.specs.declared.Place.TheVariants.{Idle, Waiting, Running}
use Rattle.chain.specs.declared.Job.{Job}
use Rattle.chain.specs.Job.{job_at}
use Rattle.picks.specs.Pick.{home}
use Rattle.machine.specs.declared.Chart.{Chart}
use Rattle.machine.specs.Chart.{chart_of}
use Rattle.machine.specs.Tick.{Arrivals, picked, jobs_at, released_at, worst_at, late_at}
use Rattle.run.specs.Answer.{run_answer}
use Rattle.intime.specs.Stands.{Stands}

-- the table's lengths of a row's parts: C1, A, C2
unfoldable pub len_of : Table → ℕ → ℕ → ℕ
len_of t i zero = get_or t.c1 i 0
len_of t i (suc zero) = get_or t.a i 0
len_of t i (suc (suc j)) = get_or t.c2 i 0

-- the plan's bounds of a row's parts: D1, S, D2
unfoldable pub bound_of : Plan → ℕ → ℕ → ℕ
bound_of p i zero = get_or p.d1 i 0
bound_of p i (suc zero) = get_or p.section i 0
bound_of p i (suc (suc j)) = get_or p.d2 i 0

-- the release of part j of the job that arrived at a: "Stage one is released at a, the section at a + D1, stage two at a + D1 + S"
unfoldable pub release_of : Plan → ℕ → ℕ → ℕ → ℕ
release_of p i a zero = a
release_of p i a (suc j) = release_of p i a j + bound_of p i j

-- "any arrivals of each task at least its period apart, stages that take at most the table's time": of any number, at any ticks. Where
-- row i has an arrival at tick a, `ar i a` has the lengths that it brings.
pub record Valid (t : Table) (ar : Arrivals) : Type 0 where
  pub apart : (i a b : ℕ) (ls ks : List ℕ) → i < t.n → ar i a ≡ Some ls → ar i b ≡ Some ks → a < b → a + get_or t.period i 0 ≤ b
  pub lengths : (i a : ℕ) (ls : List ℕ) → i < t.n → ar i a ≡ Some ls → (j : ℕ) → j < 3 → get_or ls j 0 ≤ len_of t i j

-- a place is behind part j if that part neither runs nor is still to come
abbrev pub Behind : ℕ → Place → Type 0
Behind j Idle = Unit {0}
Behind j (Waiting u e) = j < e
Behind j (Running e l) = j < e

-- part j of the row's job that arrived at a has ended: the job is behind it, or a later job is there
abbrev pub Ended : Job → ℕ → ℕ → Type 0
Ended x a j = (a < x.arrived) ⊎ ((x.arrived ≡ a) × Behind j x.place)

-- the row's section is begun and unfinished
abbrev pub Begun : Job → Type 0
Begun x = (l : ℕ) × (x.place ≡ Running 1 l) × (1 ≤ x.begun)

module _ (t : Table) (p : Plan) (ar : Arrivals) where
  -- "the paper's machine run from its empty start": row i's job after ticks 0 to n - 1, and once the releases of tick n are in
  abbrev pub machine : Chart
  machine = chart_of t p

  abbrev pub job : ℕ → ℕ → Job
  job n i = job_at (jobs_at machine ar n) i

  abbrev pub released : ℕ → ℕ → Job
  released n i = job_at (released_at machine ar n) i

  -- part j of row i's job that arrived at a with these lengths ends at tick e
  pub data Ends (i a j : ℕ) (ls : List ℕ) (e : ℕ) : Type 0 where
    -- "A stage of actual length 0 ends at its release"
    at_once : get_or ls j 0 ≡ 0 → e ≡ release_of p i a j → Ends i a j ls e
    -- "One whose last unit runs in tick n ends at n + 1": it has one tick left, and its processor picks its row
    after : (n : ℕ) → e ≡ suc n → (released n i).arrived ≡ a → (released n i).place ≡ Running j 1
        → get_or (picked machine (released_at machine ar n)) (home machine.homes i j) 0 ≡ suc i → Ends i a j ls e

  pub record InTime : Type 0 where
    -- a stage that takes time is there, whole, at its release
    pub is_released : (i a j : ℕ) (ls : List ℕ) → i < t.n → j < 3 → ar i a ≡ Some ls → 1 ≤ get_or ls j 0
        → ((released (release_of p i a j) i).arrived ≡ a) × ((released (release_of p i a j) i).place ≡ Running j (get_or ls j 0))
    -- "every stage ends within its bound after its release, if the run goes that far"
    pub ends : (i a j : ℕ) (ls : List ℕ) → i < t.n → j < 3 → ar i a ≡ Some ls
        → (e : ℕ) × Ends i a j ls e × (release_of p i a j ≤ e) × (e ≤ release_of p i a j + bound_of p i j)
    -- wherever it ends, it does so at or before its release and its bound;
    pub within : (i a j e : ℕ) (ls : List ℕ) → i < t.n → j < 3 → ar i a ≡ Some ls → Ends i a j ls e → e ≤ release_of p i a j + bound_of p i j
    -- and at every tick from its release and its bound on it has ended
    pub has_ended : (i a j n : ℕ) (ls : List ℕ) → i < t.n → j < 3 → ar i a ≡ Some ls → release_of p i a j + bound_of p i j ≤ n → Ended (released n i) a j
    -- "no stage is released before the one ahead of it has ended": the one ahead of it in its job,
    pub in_order : (i a j e : ℕ) (ls : List ℕ) → i < t.n → j < 2 → ar i a ≡ Some ls → Ends i a j ls e → e ≤ release_of p i a (suc j)
    -- or any of a job before;
    pub job_by_job : (i a b j e : ℕ) (ls ks : List ℕ) → i < t.n → j < 3 → ar i a ≡ Some ls → ar i b ≡ Some ks → a < b → Ends i a j ls e → e ≤ b
    -- so that in no tick a row has what refusal 19 is given for, "a stage released while an earlier one of its task is unfinished"
    pub never_late : (n : ℕ) → late_at machine ar n ≡ t.n
    -- "two sections of one resource are never both begun and unfinished"
    pub alone : (n i k : ℕ) → i < t.n → k < t.n → get_or t.resource i 0 ≡ get_or t.resource k 0 → Begun (job n i) → Begun (job n k) → i ≡ k
    -- every worst response that the machine holds is at most the plan's bound
    pub worst : (n i j : ℕ) → i < t.n → j < 3 → get_or (worst_at machine ar n) (3 * i + j) 0 ≤ bound_of p i j

-- THE THEOREM: "For any table with a plan", which are any bytes that are read and planned without refusal, and for any number of ticks
abbrev pub Demand3 : Type 0
Demand3 = (bs : List ℕ) → number_in (reading_of bs) ≡ 0 → is_planned (planned_of (table_in (reading_of bs))) ≡ true
    → (ar : Arrivals) → Valid (table_in (reading_of bs)) ar → InTime (table_in (reading_of bs)) (plan_in (planned_of (table_in (reading_of bs)))) ar

-- the same for any plan that stands, whoever made it
abbrev pub ForPlans : Type 0
ForPlans = (t : Table) (p : Plan) → GoodTable t → Stands t p → (ar : Arrivals) → Valid t ar → InTime t p ar

-- and of every call of the run: no worst response that it returns is above the plan's bound,
abbrev pub Responses : Type 0
Responses = (bs : List ℕ) (xs : List Arrival) (f w size i j : ℕ) → i < (table_in (reading_of bs)).n → j < 3
    → get_or (run_answer (reading_of bs) xs f w size).worst (3 * i + j) 0 ≤ bound_of (plan_in (planned_of (table_in (reading_of bs)))) i j

-- and 19 is never given
abbrev pub Never19 : Type 0
Never19 = (bs : List ℕ) (xs : List Arrival) (f w size : ℕ) → (run_answer (reading_of bs) xs f w size).number ≡ 19 → ⊥
