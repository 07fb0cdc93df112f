-- A call that is answered with number 0 has passed every check, and its answer and trace are those of the ticks.
use Rattle.std.specs.Prelude.{Result, Ok, Err}
use Prim.Native.Nat.{ℕ, suc, ◌+◌, ◌*◌, ◌≤◌, ◌<◌}
use mathlib.Core.Path.{◌≡◌, refl, sym, ◌∙◌}
use mathlib.Core.Bool.{Bool, true, false, cond, true≢false}
use mathlib.Core.List.{List, ◌++◌}
use native.Mathlib.Omega.{arith}
use borrow.Author.Tests.{ltb-true, ltb-false, le-ltb}
use lib.ListN.{length, drop}
use lib.Dec.{ltb}
use Rattle.table.specs.declared.Table.{Table}
use Rattle.table.specs.declared.Refusal.{Refusal}
use Rattle.table.specs.Table.{number_in, names_in, table_in}
use Rattle.plan.specs.declared.Plan.{Plan}
use Rattle.plan.specs.declared.NoPlan.{NoPlan}
use Rattle.plan.specs.Trial.{plan_in}
use Rattle.plan.specs.Trial.{number_of, names_of, mark_of, value_of}
use Rattle.plan.specs.Planning.{is_planned, planned_of}
use Rattle.plan.proofs.Exactly.{number_planned}
use Rattle.arrivals.specs.declared.Arrival.{Arrival}
use Rattle.arrivals.specs.Arrival.{brings}
use Rattle.machine.specs.declared.Chart.{Chart}
use Rattle.machine.specs.Chart.{chart_of}
use Rattle.machine.specs.Tick.{jobs_at, worst_at, late_at}
use Rattle.machine.specs.Counts.{tally_of}
use Rattle.arrivals.specs.Check.{number_heard}
use Rattle.run.specs.Run.{Ran, refused, done, late_tick, log, stepped_of, shown_of}
use Rattle.run.specs.Answer.{heard, call_number, call_names, call_answer, table_answer, run_answer, trace_after}
use Rattle.run.proofs.Calls.{allowed}

-- what the machine answers after ticks 0 to e - 1
abbrev pub ran_to : Chart → List Arrival → ℕ → Ran
ran_to c xs e = done (worst_at c (brings xs) e) (tally_of c.n (jobs_at c (brings xs) e))

-- the chart of a table and its plan
abbrev pub chart_in : Table → Chart
chart_in t = chart_of t (plan_in (planned_of t))

-- what a call has passed that is answered with number 0
pub record Accepted (r : Result Table Refusal) (xs : List Arrival) (f w size : ℕ) : Type 0 where
  pub read : (number_in r) ≡ 0
  pub planned : is_planned (planned_of (table_in r)) ≡ true
  pub called : call_number (table_in r) xs f w size ≡ 0
  pub heard_none : (number_heard (heard (table_in r) xs)) ≡ 0
  pub in_time : f + w ≤ late_tick (chart_in (table_in r)) xs (f + w)
  pub answer : run_answer r xs f w size ≡ ran_to (chart_in (table_in r)) xs (f + w)

-- an answer with number 0 is not that of a refusal
passed : (a b : ℕ) (refusal answer : Ran) → (a < b → 1 ≤ refusal.number) → (cond (ltb a b) refusal answer).number ≡ 0 → (b ≤ a) × (cond (ltb a b) refusal answer ≡ answer) × (answer.number ≡ 0)
passed a b refusal answer h = go (ltb a b) refl
  where
    go : (t : Bool) → ltb a b ≡ t → (cond t refusal answer).number ≡ 0 → (b ≤ a) × (cond t refusal answer ≡ answer) × (answer.number ≡ 0)
    go true e z = absurd (omega (arith, h (ltb-true a b e)))
    go false e z = (ltb-false a b e, refl, z)

module _ (r : Result Table Refusal) (xs : List Arrival) (f w size : ℕ) where
  -- it has
  pub run_accepted : (run_answer r xs f w size).number ≡ 0 → Accepted r xs f w size
  unfolding run_answer table_answer call_answer stepped_of
  run_accepted z =
      let t : Table = (table_in r) in
      let tried : Result Plan NoPlan = planned_of t in
      let read = passed 0 (number_in r) (refused (number_in r) (names_in r) 0 0) (table_answer t tried xs f w size) (λ h. h) z in
      let planned = passed 0 (number_of tried) (refused (number_of tried) (names_of tried) (mark_of tried) (value_of tried)) (call_answer t (plan_in tried) xs f w size) (λ h. h) read.2 in
      let called = passed 0 (call_number t xs f w size) (refused (call_number t xs f w size) (call_names t xs f w size) 0 0) (stepped_of (chart_in t) xs f w) (λ h. h) planned.2 in
      let late : ℕ = late_tick (chart_in t) xs (f + w) in
      let stepped = passed late (f + w) (refused 19 (suc (late_at (chart_in t) (brings xs) late)) 0 0) (ran_to (chart_in t) xs (f + w)) (λ h. omega arith) called.2 in
      let none : call_number t xs f w size ≡ 0 = omega (arith, called.0) in
      record {
        read = omega (arith, read.0);
        planned = number_planned tried (omega (arith, planned.0));
        called = none;
        heard_none = (allowed t xs f w size none).good;
        in_time = stepped.0;
        answer = read.1 ∙ planned.1 ∙ called.1 ∙ stepped.1;
      }

-- a plan has no number of a refusal
planned_number : (o : Result Plan NoPlan) → is_planned o ≡ true → number_of o ≡ 0
unfolding number_of
planned_number (Ok plan) e = refl
planned_number (Err x) e = absurd (true≢false (sym e))

-- and the front of its trace has the bytes of the window
pub trace_accepted : (r : Result Table Refusal) (xs : List Arrival) (f w : ℕ) (trace : List ℕ) → Accepted r xs f w (length trace) → trace_after r xs f w trace ≡ log (chart_in (table_in r)) xs f w ++ drop ((table_in r).m * w) trace
unfolding trace_after shown_of number_of chart_of
trace_accepted r xs f w trace a = rw (a.read, planned_number (planned_of (table_in r)) a.planned, a.called, le-ltb _ _ a.in_time)
