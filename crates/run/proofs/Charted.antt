-- The chart of a plan is one that the machine can run, and arrivals that are not refused are ones that it can take.
use Prim.Native.Nat.{ℕ, zero, suc, ◌+◌, ◌*◌, ◌≤◌, ◌<◌}
use mathlib.Core.Path.{◌≡◌, refl, ap, subst}
use mathlib.Core.List.{List}
use native.Mathlib.Omega.{arith}
use borrow.Author.Tests.{leb-true, leb-false}
use mathlib.Core.Bool.{Bool, true, false}
use lib.Dec.{leb}
use lib.ListN.{get_or, length}
use Rattle.lists.proofs.Tab.{get_or-filled}
use Rattle.rank.proofs.Order.{ranks-lt}
use Rattle.table.specs.declared.Table.{Table}
use Rattle.table.specs.Good.{GoodTable}
use Rattle.plan.specs.Trial.{plan_in}
use Rattle.plan.specs.Planning.{is_planned, planned_of}
use Rattle.plan.proofs.Covers.{plan_bounds, plan_serves}
use Rattle.machine.specs.Chart.{threes, locks_of, chart_of}
use Rattle.machine.specs.Good.{GoodChart, Coming}
use Rattle.arrivals.specs.declared.Arrival.{Arrival}
use Rattle.arrivals.proofs.Good.{arrivals_good}
use Rattle.arrivals.proofs.Seeking.{seek_start}
use Rattle.arrivals.specs.Check.{number_heard}
use Rattle.run.specs.Answer.{heard}
use Rattle.machine.proofs.Threes.{threes_first, threes_second, threes_third, threes_rest, length-threes}

-- a place is one of the three of a row
data Third : ℕ → Type 0 where
  at0 : (i : ℕ) → Third (3 * i + 0)
  at1 : (i : ℕ) → Third (3 * i + 1)
  at2 : (i : ℕ) → Third (3 * i + 2)

-- each place is
third : (k : ℕ) → Third k
third zero = at0 0
third (suc k) = next (third k)
  where
    next : {n : ℕ} → Third n → Third (suc n)
    next (at0 i) = subst Third (omega arith) (at1 i)
    next (at1 i) = subst Third (omega arith) (at2 i)
    next (at2 i) = subst Third (omega arith) (at0 (suc i))

-- three columns side by side are as small as each of them
threes-le : (xs ys zs : List ℕ) (n b : ℕ) → n ≤ 64 → ((i : ℕ) → i < n → (get_or xs i 0 ≤ b) × (get_or ys i 0 ≤ b) × (get_or zs i 0 ≤ b)) → (k : ℕ) → get_or (threes xs ys zs n) k 0 ≤ b
threes-le xs ys zs n b few h k = go (leb (3 * n) k) refl (third k)
  where
    inside : {k : ℕ} → k < 3 * n → Third k → get_or (threes xs ys zs n) k 0 ≤ b
    inside l (at0 i) = omega (arith, threes_first xs ys zs n few i (omega arith), (h i (omega arith)).0)
    inside l (at1 i) = omega (arith, threes_second xs ys zs n few i (omega arith), (h i (omega arith)).1)
    inside l (at2 i) = omega (arith, threes_third xs ys zs n few i (omega arith), (h i (omega arith)).2)

    go : (d : Bool) → leb (3 * n) k ≡ d → Third k → get_or (threes xs ys zs n) k 0 ≤ b
    go true e z = omega (arith, threes_rest xs ys zs n few k (leb-true (3 * n) k e))
    go false e z = inside (leb-false (3 * n) k e) z

module _ (t : Table) (good : GoodTable t) (found : is_planned (planned_of t) ≡ true) where
  -- no section is on a processor above 16
  lock_le : (i : ℕ) → i < t.n → get_or (locks_of t (plan_in (planned_of t))) i 0 ≤ 16
  lock_le i h =
      let e = get_or-filled 64 0 (λ k. get_or (plan_in (planned_of t)).serves (get_or t.resource k 0) 0) t.n i 0 h in
      omega (arith, e, plan_serves t good found (get_or t.resource i 0))

  -- so the chart is good
  pub good_chart : GoodChart (chart_of t (plan_in (planned_of t)))
  unfolding chart_of
  good_chart =
      record {
        processors = good.processors.1;
        bounded = record {
          whole = length-threes (plan_in (planned_of t)).d1 (plan_in (planned_of t)).section (plan_in (planned_of t)).d2 t.n;
          small = threes-le (plan_in (planned_of t)).d1 (plan_in (planned_of t)).section (plan_in (planned_of t)).d2 t.n 1000000 good.rows.1
              (λ i h.
              let s = (plan_bounds t good found i h).sum in
              let p = (good.tasks i h).period.1 in
              (omega (arith, s, p), omega (arith, s, p), omega (arith, s, p)));
        };
        homed = record {
          few = good.rows.1;
          on = threes-le (plan_in (planned_of t)).processor (locks_of t (plan_in (planned_of t))) (plan_in (planned_of t)).processor t.n 16 good.rows.1
              (λ i h.
              let p = (plan_bounds t good found i h).processor.1 in
              let m = good.processors.1 in
              (omega (arith, p, m), lock_le i h, omega (arith, p, m)));
          ranked = λ i h. omega (arith, ap (λ (l : List ℕ). get_or l i 0) good.ranks, ranks-lt t.period t.n good.rows.1 i h, good.rows.1);
        };
      }

-- a list of arrivals that is not refused, before the first tick
pub coming : (t : Table) → GoodTable t → (xs : List Arrival) → length xs ≤ 4096 → (number_heard (heard t xs)) ≡ 0 → Coming t.n xs 0 0
coming t good xs few z =
    let g = arrivals_good t.n t.period t.c1 t.a t.c2 xs good.rows.1 z in
    record {
      periods = t.period;
      c1s = t.c1;
      secs = t.a;
      c2s = t.c2;
      good = g;
      few = few;
      seek = seek_start t.n t.period t.c1 t.a t.c2 xs g good.rows.1;
    }
