-- The tasks of a good table in rank order are good.
use Prim.Native.Nat.{ℕ, ◌+◌, ◌≤◌, ◌<◌}
use mathlib.Core.Path.{◌≡◌, ◌∙◌, ap}
use mathlib.Core.List.{List}
use native.Mathlib.Omega.{arith}
use lib.ListN.{get_or}
use Rattle.rank.specs.Order.{row_of, in_rank, numbers_to}
use Rattle.rank.proofs.InRank.{rank_of_row, get_or-in_rank}
use Rattle.table.specs.declared.Table.{Table}
use Rattle.table.specs.Good.{GoodTable}
use Rattle.spread.specs.Weight.{GoodRows, weights_of, used_of, heaviest_of}
use Rattle.spread.proofs.Weight.{weights-le, used_le}
use Rattle.spread.proofs.Order.{heaviest_in}
use Rattle.plan.specs.Tasks.{works_of, of_resource, weighed, tasks_of}
use Rattle.plan.specs.Good.{GoodTasks}
use Rattle.lists.proofs.Tab.{get_or-filled}

module _ (t : Table) (g : GoodTable t) where
  -- the row of a rank is one of the table
  row_lt : (k : ℕ) → k < t.n → row_of t.rank t.n k < t.n
  row_lt k l = (rank_of_row t.period t.rank t.n g.rows.1 g.ranks k l).0

  -- task k is the row of rank k
  ordered : (column : List ℕ) (k : ℕ) → k < t.n → get_or (in_rank t.rank t.n column) k 0 ≡ get_or column (row_of t.rank t.n k) 0
  ordered column k l = get_or-in_rank t.rank t.n column k l

  -- what the resource of task k has, and C1 + C2 of task k
  pub of_resource_lem : (values : List ℕ) (k : ℕ) → k < t.n
      → get_or (of_resource values (in_rank t.rank t.n t.resource) t.n) k 0 ≡ get_or values (get_or t.resource (row_of t.rank t.n k) 0) 0
  of_resource_lem values k l =
      get_or-filled 64 0 (λ j. get_or values (get_or (in_rank t.rank t.n t.resource) j 0) 0) t.n k 0 l
      ∙ ap (λ (r : ℕ). get_or values r 0) (ordered t.resource k l)

  -- C1 + C2 of task k are those of its row
  pub works_of_lem : (k : ℕ) → k < t.n
      → get_or (works_of (in_rank t.rank t.n t.c1) (in_rank t.rank t.n t.c2) t.n) k 0 ≡ get_or t.c1 (row_of t.rank t.n k) 0 + get_or t.c2 (row_of t.rank t.n k) 0
  works_of_lem k l =
      let e = get_or-filled 64 0 (λ j. get_or (in_rank t.rank t.n t.c1) j 0 + get_or (in_rank t.rank t.n t.c2) j 0) t.n k 0 l in
      omega (arith, ordered t.c1 k l, ordered t.c2 k l)

  -- the rows have good periods, and sections within them
  pub good_rows : GoodRows t.period t.a t.n
  good_rows k l =
      let h = g.tasks k l in
      (h.period.0, h.period.1, omega (arith, h.sum.1))

  -- C1 + C2 of a task are at most a million
  pub small_works : (k : ℕ) → k < t.n → get_or (in_rank t.rank t.n t.c1) k 0 + get_or (in_rank t.rank t.n t.c2) k 0 ≤ 1000000
  small_works k l =
      let h = g.tasks (row_of t.rank t.n k) (row_lt k l) in
      omega (arith, ordered t.c1 k l, ordered t.c2 k l, h.sum.1, h.period.1)

  -- no resource is above 16
  pub small_resources : (k : ℕ) → k < t.n → get_or (in_rank t.rank t.n t.resource) k 0 ≤ 16
  small_resources k l = omega (arith, ordered t.resource k l, (g.tasks (row_of t.rank t.n k) (row_lt k l)).resource)

  -- so the tasks are good
  pub tasks_good : GoodTasks (tasks_of t)
  unfolding tasks_of weighed
  tasks_good =
      record {
        few = g.rows;
        processors = g.processors;
        periods = λ k l. let h = g.tasks (row_of t.rank t.n k) (row_lt k l) in
            (omega (arith, ordered t.period k l, h.period.0), omega (arith, ordered t.period k l, h.period.1));
        sum = λ k l. let h = g.tasks (row_of t.rank t.n k) (row_lt k l) in
            omega (arith, ordered t.period k l, ordered t.c1 k l, ordered t.a k l, ordered t.c2 k l, h.sum.1);
        works = λ k l. get_or-filled 64 0 (λ k. get_or (in_rank t.rank t.n t.c1) k 0 + get_or (in_rank t.rank t.n t.c2) k 0) t.n k 0 l;
        resources = small_resources;
        ranks = (t.period, g.ranks);
        weights = weights-le t.period t.a t.resource t.n g.rows.1 good_rows;
        heaviest = λ j l. (heaviest_in (weights_of t.period t.a t.resource t.n) j l).1;
        used = used_le (weights_of t.period t.a t.resource t.n);
      }

-- columns that are each what the tasks of a table have are those tasks
pub tasks_made : (t : Table) (period c1 a c2 work resource top number row weight heaviest : List ℕ) (used : ℕ) →
    period ≡ in_rank t.rank t.n t.period → c1 ≡ in_rank t.rank t.n t.c1 → a ≡ in_rank t.rank t.n t.a → c2 ≡ in_rank t.rank t.n t.c2 →
    work ≡ works_of c1 c2 t.n → resource ≡ in_rank t.rank t.n t.resource → top ≡ of_resource t.ceiling resource t.n → number ≡ numbers_to t.n →
    row ≡ in_rank t.rank t.n number → weight ≡ weights_of t.period t.a t.resource t.n → heaviest ≡ heaviest_of weight → used ≡ used_of weight →
    record { n = t.n; m = t.m; npp = t.npp; period = period; c1 = c1; a = a; c2 = c2; work = work; resource = resource; top = top; row = row; rank = t.rank; weight = weight; heaviest = heaviest; used = used } ≡ tasks_of t
unfolding tasks_of weighed
tasks_made t period c1 a c2 work resource top number row weight heaviest used e1 e2 e3 e4 e5 e6 e7 e8 e9 e10 e11 e12 =
    rw (e5, e7, e9, e11, e12, e1, e2, e3, e4, e6, e8, e10)
