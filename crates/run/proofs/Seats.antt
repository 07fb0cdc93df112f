-- A plan gives every part that can run a processor of its own.
use Prim.Native.Nat.{ℕ, ◌≤◌, ◌<◌}
use mathlib.Core.Path.{◌≡◌, refl}
use mathlib.Core.Bool.{true}
use native.Mathlib.Omega.{arith}
use borrow.Author.Tests.{lt-ltb, eq-eqb}
use lib.ListN.{get_or}
use Rattle.lists.proofs.Tab.{get_or-filled}
use Rattle.rank.specs.Ceiling.{uses}
use Rattle.table.specs.declared.Table.{Table}
use Rattle.table.specs.Good.{GoodTable}
use Rattle.table.proofs.Good.{names_resource}
use Rattle.plan.specs.declared.Plan.{Plan}
use Rattle.plan.specs.Trial.{plan_in}
use Rattle.plan.specs.Planning.{is_planned, planned_of}
use Rattle.plan.proofs.Covers.{plan_bounds, plan_served}
use Rattle.machine.specs.Chart.{locks_of, chart_of}
use Rattle.machine.proofs.Threes.{threes_first, threes_second, threes_third}
use Rattle.run.specs.Seated.{Seated}

module _ (t : Table) (g : GoodTable t) (e : is_planned (planned_of t) ≡ true) where
  -- the plan
  abbrev p : Plan
  p = (plan_in (planned_of t))

  -- the resource of a section has a processor
  locked : (i : ℕ) → i < t.n → 1 ≤ get_or t.a i 0 → (1 ≤ get_or (locks_of t p) i 0) × (get_or (locks_of t p) i 0 ≤ p.s)
  locked i l h =
      let r : ℕ = get_or t.resource i 0 in
      let named : 1 ≤ r = names_resource t g i l h in
      let used : uses r r ≡ true = rw (lt-ltb 0 r named, eq-eqb r r refl) in
      rw (get_or-filled 64 0 (λ k. get_or p.serves (get_or t.resource k 0) 0) t.n i 0 l) ((plan_served t g e r named (g.tasks i l).resource).on (i, l, used))

  -- so every part that can run has one
  pub planned_seated : Seated (chart_of t p) t.a
  unfolding chart_of
  planned_seated =
      record {
        first = λ i l. let q = (plan_bounds t g e i l).processor in rw (threes_first _ _ _ t.n g.rows.1 i l) (omega (arith, q.0), q.1);
        section = λ i l h. let q = locked i l h in rw (threes_second _ _ _ t.n g.rows.1 i l) (q.0, omega (arith, q.1, (plan_bounds t g e i l).processor));
        second = λ i l. let q = (plan_bounds t g e i l).processor in rw (threes_third _ _ _ t.n g.rows.1 i l) (omega (arith, q.0), q.1);
      }
