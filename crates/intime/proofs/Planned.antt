-- Every plan that the planner finds stands, and every list of arrivals that a run accepts is valid.
use Prim.Native.Nat.{ℕ, zero, suc, ◌≤◌, ◌<◌}
use mathlib.Core.Path.{◌≡◌, refl}
use mathlib.Core.Bool.{true}
use mathlib.Core.List.{List}
use native.Mathlib.Omega.{arith}
use borrow.Author.Tests.{lt-ltb, eq-eqb}
use lib.ListN.{get_or}
use Rattle.table.specs.declared.Table.{Table}
use Rattle.table.specs.Good.{GoodTable}
use Rattle.bounds.specs.Demand.{Term}
use Rattle.bounds.specs.Bound.{LeastBound}
use Rattle.plan.specs.Trial.{plan_in}
use Rattle.plan.specs.Planning.{is_planned, planned_of}
use Rattle.plan.proofs.Covers.{plan_bounds, plan_served}
use Rattle.arrivals.specs.declared.Arrival.{Arrival}
use Rattle.arrivals.specs.Arrival.{brings}
use Rattle.arrivals.specs.Check.{number_heard}
use Rattle.arrivals.specs.Seek.{GoodArrivals}
use Rattle.arrivals.proofs.Good.{arrivals_good}
use Rattle.arrivals.proofs.Seeking.{Brought, brings_fits, brings_apart}
use Rattle.run.specs.Answer.{heard}
use Rattle.intime.specs.Demand3.{len_of, Valid}
use Rattle.intime.specs.Stands.{Covers, Stands}

-- the least bound that covers covers
least_covers : (terms : List Term) (len blocking bound : ℕ) → LeastBound terms len blocking bound → Covers terms len blocking bound
least_covers terms len blocking bound b = record { some = λ h. (b.some h).some; covers = λ h. omega (arith, (b.some h).same) }

-- each row's bounds cover their demands, and the resource that it uses is served, as the row itself shows
pub plan_stands : (t : Table) → GoodTable t → is_planned (planned_of t) ≡ true → Stands t (plan_in (planned_of t))
plan_stands t g e =
    record {
      section = λ i hi. least_covers _ _ _ _ (plan_bounds t g e i hi).section;
      first = λ i hi. least_covers _ _ _ _ (plan_bounds t g e i hi).first;
      second = λ i hi. least_covers _ _ _ _ (plan_bounds t g e i hi).second;
      sum = λ i hi. omega (arith, (plan_bounds t g e i hi).sum);
      served = λ i hi h.
          let r : ℕ = get_or t.resource i 0 in
          ((plan_served t g e r h (g.tasks i hi).resource).on (i, hi, rw (lt-ltb 0 r h) (eq-eqb r r refl))).1;
      placed = λ i hi. (plan_bounds t g e i hi).processor;
    }

-- what an arrival brings for each part is at most the table's length
brought_short : (t : Table) (i a : ℕ) (ls : List ℕ) → Brought t.n t.c1 t.a t.c2 i a ls → (j : ℕ) → j < 3 → get_or ls j 0 ≤ len_of t i j
unfolding len_of
brought_short t i a ls b zero h = b.len1
brought_short t i a ls b (suc zero) h = b.len2
brought_short t i a ls b (suc (suc zero)) h = b.len3
brought_short t i a ls b (suc (suc (suc j))) h = absurd (omega arith)

-- a list without a refusal is in order, within the table's limits, and each row's arrivals are a period apart
pub list_valid : (t : Table) → GoodTable t → (xs : List Arrival) → number_heard (heard t xs) ≡ 0 → Valid t (brings xs)
list_valid t g xs e =
    let good : GoodArrivals t.n t.period t.c1 t.a t.c2 xs = arrivals_good t.n t.period t.c1 t.a t.c2 xs g.rows.1 e in
    record {
      apart = λ i a b ls ks hi. brings_apart t.n t.period t.c1 t.a t.c2 xs good i a b ls ks;
      lengths = λ i a ls hi h. brought_short t i a ls (brings_fits t.n t.period t.c1 t.a t.c2 xs good i a ls h);
    }
