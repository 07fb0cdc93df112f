-- What a plan keeps: each of its bounds is the least that covers, the three fit into the period, and its numbers fit their fields.
use Prim.Native.Nat.{ℕ, ◌≤◌, ◌<◌}
use mathlib.Core.Path.{◌≡◌, sym, ◌∙◌, ap}
use mathlib.Core.List.{List}
use mathlib.Core.Bool.{true}
use mathlib.Core.Logic.{◌↔◌, dite}
use native.Mathlib.Omega.{arith}
use native.Mathlib.Decide.{dec_lt}
use borrow.Author.Tests.{lt-ltb, ltb-true, eqb-true}
use lib.ListN.{get_or}
use lib.Dec.{eqb}
use Rattle.rank.specs.Ceiling.{uses}
use Rattle.rank.specs.Order.{in_rank, in_rows}
use Rattle.rank.proofs.InRank.{at_lt, get_or-in_rows, at_rank, in_rank_in_rows}
use Rattle.table.specs.declared.Table.{Table}
use Rattle.table.specs.Good.{GoodTable}
use Rattle.bounds.specs.Terms.{terms_on}
use Rattle.bounds.specs.Bound.{LeastBound}
use Rattle.bounds.proofs.Terms.{on_same}
use Rattle.spread.specs.Weight.{Used, weight_of, weights_of}
use Rattle.spread.proofs.Weight.{weights_at, weighs}
use Rattle.spread.proofs.Spread.{served, serves-le}
use Rattle.sections.proofs.Found.{section_least}
use Rattle.stages.proofs.Placing.{Placed, stages_placed}
use Rattle.plan.specs.declared.Tasks.{Tasks}
use Rattle.plan.specs.declared.Plan.{Plan}
use Rattle.plan.specs.Tasks.{by_rank, weighed, tasks_of}
use Rattle.plan.specs.Trial.{plan_in, plan_by, serves, homes, sections, stages}
use Rattle.plan.specs.Planning.{is_planned, first_trial, last_trial, planned_of}
use Rattle.plan.specs.Bounds.{section_homes, stage_homes, section_terms, stage_terms, blocking, RowBounds, Served}
use Rattle.plan.specs.Good.{PlanFits}
use Rattle.plan.proofs.Ordered.{good_rows, tasks_good}
use Rattle.plan.proofs.Trials.{unbound, bounds, stuck, places, serves_small, trial_planned, trial_whole, first_one, last-lt, planning_trial}

-- the plan of a trial with s synchronization processors
abbrev plan_tried : Tasks → ℕ → Plan
plan_tried t s = plan_by t s (serves t s) (bounds t s) (places t s)

module _ (t : Table) (g : GoodTable t) (s : ℕ) (whole : (t.n ≤ unbound (tasks_of t) s) × (t.n ≤ stuck (tasks_of t) s)) where
  -- the section bound of row i
  section_bound_lem : (i : ℕ) → i < t.n → LeastBound (section_terms t (plan_tried (tasks_of t) s) (get_or t.rank i 0)) (get_or t.a i 0) (blocking t (plan_tried (tasks_of t) s) (get_or t.rank i 0)) (get_or (plan_tried (tasks_of t) s).section i 0)
  unfolding plan_by section_terms section_homes blocking tasks_of weighed sections homes
  section_bound_lem i l =
      let k : get_or t.rank i 0 < t.n = at_lt t.period t.rank t.n g.rows.1 g.ranks i l in
      rw (get_or-in_rows t.rank t.n (bounds (tasks_of t) s) i l, sym (at_rank t.period t.rank t.n g.rows.1 g.ranks t.a i l))
      (section_least t.npp (by_rank t t.period) (by_rank t t.a) (tasks_of t).top (homes (tasks_of t) s) t.n (get_or t.rank i 0) (omega arith)).0

  -- the terms of the stages in the plan are those that the trial counts
  stage_terms_lem : (k : ℕ) → k < t.n → stage_terms t (plan_tried (tasks_of t) s) k ≡ terms_on (tasks_of t).period (tasks_of t).work (places (tasks_of t) s).processor (get_or (places (tasks_of t) s).processor k 0) k
  unfolding plan_by stage_terms stage_homes tasks_of weighed
  stage_terms_lem k l =
      let same : (j : ℕ) → j < t.n → get_or (stage_homes t (plan_tried (tasks_of t) s)) j 0 ≡ get_or (places (tasks_of t) s).processor j 0 = in_rank_in_rows t.period t.rank t.n g.rows.1 g.ranks (places (tasks_of t) s).processor in
      ap (λ (p : ℕ). terms_on (tasks_of t).period (tasks_of t).work (stage_homes t (plan_tried (tasks_of t) s)) p k) (same k l)
      ∙ on_same (tasks_of t).period (tasks_of t).work (stage_homes t (plan_tried (tasks_of t) s)) (places (tasks_of t) s).processor (get_or (places (tasks_of t) s).processor k 0) k (λ j h. same j (omega arith))

  -- the place of the task of rank k
  task_placed : (k : ℕ) → k < t.n → Placed (tasks_of t).period (tasks_of t).c1 (tasks_of t).c2 (tasks_of t).work (bounds (tasks_of t) s) s t.m (places (tasks_of t) s).processor k
      (get_or (places (tasks_of t) s).processor k 0) (get_or (places (tasks_of t) s).d1 k 0) (get_or (places (tasks_of t) s).d2 k 0)
  unfolding tasks_of weighed stages
  task_placed k l = stages_placed (tasks_of t).period (tasks_of t).c1 (tasks_of t).c2 (tasks_of t).work (bounds (tasks_of t) s) s t.m t.n k g.rows.1 (omega arith)

  -- so the bounds of row i are what they are to be
  trial_bounds : (i : ℕ) → i < t.n → RowBounds t (plan_tried (tasks_of t) s) i
  unfolding plan_by tasks_of weighed
  trial_bounds i l =
      let k : get_or t.rank i 0 < t.n = at_lt t.period t.rank t.n g.rows.1 g.ranks i l in
      let (above, below, first, second, sum) = task_placed (get_or t.rank i 0) k in
      let row : (column : List ℕ) → get_or (in_rows t.rank t.n column) i 0 ≡ get_or column (get_or t.rank i 0) 0 = λ column. get_or-in_rows t.rank t.n column i l in
      let task : (column : List ℕ) → get_or column i 0 ≡ get_or (in_rank t.rank t.n column) (get_or t.rank i 0) 0 = λ column. sym (at_rank t.period t.rank t.n g.rows.1 g.ranks column i l) in
      record {
        section = section_bound_lem i l;
        first = rw (stage_terms_lem (get_or t.rank i 0) k, row (places (tasks_of t) s).d1, task t.c1) first;
        second = rw (stage_terms_lem (get_or t.rank i 0) k, row (places (tasks_of t) s).d2, task t.c2) second;
        sum = omega (arith, sum, row (places (tasks_of t) s).d1, row (bounds (tasks_of t) s), row (places (tasks_of t) s).d2, task t.period);
        processor = (omega (arith, above, row (places (tasks_of t) s).processor), omega (arith, below, row (places (tasks_of t) s).processor));
      }

-- a row that uses a resource has a section
user_long : (t : Table) → GoodTable t → (r k : ℕ) → 1 ≤ r → k < t.n → uses (get_or t.resource k 0) r ≡ true → 1 ≤ get_or t.a k 0
user_long t g r k a l u =
    let v : eqb (get_or t.resource k 0) r ≡ true = rw (lt-ltb 0 r a) at u in
    let q : get_or t.resource k 0 ≡ r = eqb-true (get_or t.resource k 0) r v in
    ltb-true 0 (get_or t.a k 0) ((g.tasks k l).agree ∙ lt-ltb 0 (get_or t.resource k 0) (omega arith))

-- a resource has one of processors 1 to s exactly when a row uses it
serves_used : (t : Table) → GoodTable t → (s : ℕ) → (0 < (tasks_of t).used → 1 ≤ s) → (r : ℕ) → 1 ≤ r → r ≤ 16 → Used t.resource r t.n ↔ (1 ≤ get_or (serves (tasks_of t) s) r 0)
unfolding tasks_of weighed serves
serves_used t g s some r a b =
    let weight : ℕ = weight_of t.period t.a t.resource t.n r in
    let at : get_or (weights_of t.period t.a t.resource t.n) r 0 ≡ weight = weights_at t.period t.a t.resource t.n r (omega arith) in
    let x = weighs t.period t.a t.resource r t.n (good_rows t g) (λ k l u. user_long t g r k a l u) in
    let y = served (weights_of t.period t.a t.resource t.n) (tasks_good t g).weights s some r a b in
    ((λ u. y.0 (omega (arith, at, x.1 u))), λ h. x.0 (omega (arith, at, y.1 h)))

module _ (t : Table) (g : GoodTable t) (e : is_planned (planned_of t) ≡ true) where
  -- the plan is that of one of the trials, which has all bounds and places
  planned_in : (s : ℕ) × (first_trial (tasks_of t) ≤ s) × (s ≤ last_trial (tasks_of t)) × ((t.n ≤ unbound (tasks_of t) s) × (t.n ≤ stuck (tasks_of t) s)) × (plan_in (planned_of t) ≡ plan_tried (tasks_of t) s)
  unfolding planned_of tasks_of weighed
  planned_in =
      let (s, a, b, q) = planning_trial (tasks_of t) g.processors.0 in
      let w = trial_whole (tasks_of t) s (ap is_planned (sym q) ∙ e) in
      (s, a, b, w, ap plan_in (q ∙ trial_planned (tasks_of t) s w.0 w.1))

  -- each bound of a plan is the least that covers its demand, the three of a row fit into its period, and its processor is one for stages
  pub plan_bounds : (i : ℕ) → i < t.n → RowBounds t (plan_in (planned_of t)) i
  plan_bounds i l =
      let (s, a, b, w, q) = planned_in in
      rw q (trial_bounds t g s w i l)

  -- no resource is on a processor past 16
  pub plan_serves : (r : ℕ) → get_or (plan_in (planned_of t)).serves r 0 ≤ 16
  unfolding tasks_of weighed plan_by
  plan_serves r =
      let (s, a, b, w, q) = planned_in in
      let h : s < t.m = omega (arith, last-lt (tasks_of t) g.processors.0) in
      let d : (plan_in (planned_of t)).serves ≡ serves (tasks_of t) s = ap (λ (p : Plan). p.serves) q in
      rw d (omega (arith, serves_small (tasks_of t) (tasks_good t g) s h (λ u. omega (arith, first_one (tasks_of t) u)) r))

  -- the numbers of a plan can be said in their fields
  pub plan_fits : PlanFits t.n (plan_in (planned_of t))
  unfolding tasks_of weighed plan_by
  plan_fits =
      let (s, a, b, w, q) = planned_in in
      let h : s < t.m = omega (arith, last-lt (tasks_of t) g.processors.0) in
      let c : (plan_in (planned_of t)).s ≡ s = ap (λ (p : Plan). p.s) q in
      record {
        count = omega (arith, c, g.processors.1);
        serves = λ r l. omega (arith, plan_serves r);
        rows = λ k l. let x = plan_bounds k l in
            let y = x.sum in
            let z = (g.tasks k l).period.1 in
            (omega (arith, x.processor.1, g.processors.1), omega (arith, y, z), omega (arith, y, z), omega (arith, y, z));
      }

  -- each used resource has one of processors 1 to s, and no other has one
  pub plan_served : (r : ℕ) → 1 ≤ r → r ≤ 16 → Served t (plan_in (planned_of t)) r
  unfolding plan_by serves
  plan_served r a b =
      let (s, c, d, w, q) = planned_in in
      let some : 0 < (tasks_of t).used → 1 ≤ s = λ u. omega (arith, first_one (tasks_of t) u) in
      let x = serves_used t g s some r a b in
      rw q record {
        on = λ u. (x.0 u, serves-le (tasks_of t).weight (tasks_of t).heaviest s (tasks_of t).used some r);
        off = λ unused. dite (dec_lt 0 (get_or (serves (tasks_of t) s) r 0)) (λ h. absurd (unused (x.1 h))) (λ h. omega arith);
      }
