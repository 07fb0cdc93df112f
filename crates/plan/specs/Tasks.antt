-- The tasks of a table, numbered by rank, and what every trial needs, worked out once.
use Rattle.std.specs.Prelude.{ℕ, ◌+◌, List, get_or}
use Rattle.lists.specs.Tab.{filled}
use Rattle.rank.specs.Order.{in_rank, numbers_to}
use Rattle.table.specs.declared.Table.{Table}
use Rattle.spread.specs.Weight.{weights_of, used_of, heaviest_of}
use Rattle.plan.specs.declared.Tasks.{Tasks}

-- a column of a table or its plan, in rank order
abbrev pub by_rank : Table → List ℕ → List ℕ
by_rank t column = in_rank t.rank t.n column

-- C1 + C2 of each of n tasks
abbrev pub works_of : List ℕ → List ℕ → ℕ → List ℕ
works_of c1s c2s n = filled 64 0 n (λ k. get_or c1s k 0 + get_or c2s k 0)

-- what each of n tasks' resource has: its ceiling, or the processor that serves it
abbrev pub of_resource : List ℕ → List ℕ → ℕ → List ℕ
of_resource values resources n = filled 64 0 n (λ k. get_or values (get_or resources k 0) 0)

-- the tasks of a table whose resources have these weights
unfoldable pub weighed : Table → List ℕ → Tasks
weighed t weights =
    record {
      n = t.n;
      m = t.m;
      npp = t.npp;
      period = by_rank t t.period;
      c1 = by_rank t t.c1;
      a = by_rank t t.a;
      c2 = by_rank t t.c2;
      work = works_of (by_rank t t.c1) (by_rank t t.c2) t.n;
      resource = by_rank t t.resource;
      top = of_resource t.ceiling (by_rank t t.resource) t.n;
      row = by_rank t (numbers_to t.n);
      rank = t.rank;
      weight = weights;
      heaviest = heaviest_of weights;
      used = used_of weights;
    }

-- the tasks of a table
unfoldable pub tasks_of : Table → Tasks
tasks_of t = weighed t (weights_of t.period t.a t.resource t.n)
