-- What demand 3 says of every call of the run.
use Prim.Native.Nat.{ℕ, ◌+◌, ◌*◌, ◌≤◌, ◌<◌}
use mathlib.Core.Path.{◌≡◌, refl, ap}
use mathlib.Core.Bool.{Bool, true, false, cond}
use mathlib.Core.List.{List}
use native.Mathlib.Omega.{arith}
use borrow.Author.Tests.{ltb-true, ltb-false}
use lib.ListN.{get_or, length}
use lib.Dec.{ltb}
use Rattle.lists.proofs.Tab.{get_or-blank}
use Rattle.lists.proofs.First.{first_yes}
use Rattle.table.specs.declared.Table.{Table}
use Rattle.table.specs.Table.{reading_of, number_in, table_in}
use Rattle.table.proofs.Good.{table_good, number_le as table-le}
use Rattle.plan.specs.declared.Plan.{Plan}
use Rattle.std.specs.Prelude.{Result, Ok, Err}
use Rattle.plan.specs.declared.NoPlan.{NoPlan}
use Rattle.plan.specs.Trial.{number_of, names_of, mark_of, value_of, plan_in}
use Rattle.plan.specs.Planning.{is_planned, planned_of}
use Rattle.arrivals.specs.declared.Arrival.{Arrival}
use Rattle.arrivals.specs.Arrival.{brings}
use Rattle.arrivals.specs.Check.{number_heard}
use Rattle.arrivals.proofs.Good.{number_le as heard-le}
use Rattle.machine.specs.Chart.{chart_of}
use Rattle.machine.specs.Tick.{late_at}
use Rattle.run.specs.declared.Ran.{Ran}
use Rattle.run.specs.Run.{refused, is_late, late_tick, stepped_of}
use Rattle.run.specs.Answer.{bad_window, heard, call_number, call_answer, table_answer, run_answer}
use Rattle.run.proofs.Calls.{allowed}
use Rattle.intime.specs.Demand3.{bound_of, Responses, Never19}
use Rattle.intime.proofs.Planned.{list_valid}
use Rattle.intime.proofs.Theorem.{demand_3}

-- no refusal of a call, before its ticks, has a number above 18
call_le : (t : Table) (xs : List Arrival) (f w size : ℕ) → call_number t xs f w size ≤ 18
unfolding call_number
call_le t xs f w size = go (bad_window f w) (ltb size (t.m * w)) (ltb 4096 (length xs))
  where
    go : (a b c : Bool) → cond a 12 (cond b 13 (cond c 14 (number_heard (heard t xs)))) ≤ 18
    go true b c = omega arith
    go false true c = omega arith
    go false false true = omega arith
    go false false false = heard-le t.n t.period t.c1 t.a t.c2 xs

-- an answer that is no 19, and whose worst responses are at most the plan's bounds
record Keeps (t : Table) (p : Plan) (x : Ran) : Type 0 where
  number_le : x.number ≤ 18
  worst-le : (i j : ℕ) → i < t.n → j < 3 → get_or x.worst (3 * i + j) 0 ≤ bound_of p i j

module _ (bs : List ℕ) (xs : List Arrival) (f w size : ℕ) where
  -- the table, its plan, and what is shown of every answer
  abbrev t : Table
  t = table_in (reading_of bs)

  abbrev p : Plan
  p = plan_in (planned_of t)

  abbrev Kept : Ran → Type 0
  Kept = Keeps t p

  -- a refusal has no responses
  refusal : (number names mark value : ℕ) → number ≤ 18 → Kept (refused number names mark value)
  refusal number names mark value h = record { number_le = h; worst-le = λ i j hi hj. omega (arith, get_or-blank {A = ℕ} 192 0 (3 * i + j)) }

  -- whichever way a test goes
  tested : (a b : ℕ) (x y : Ran) → (a < b → Kept x) → (b ≤ a → Kept y) → Kept (cond (ltb a b) x y)
  tested a b x y below not-below = go (ltb a b) refl
    where
      go : (c : Bool) → ltb a b ≡ c → Kept (cond c x y)
      go true e = below (ltb-true a b e)
      go false e = not-below (ltb-false a b e)

  module _ (read : number_in (reading_of bs) ≡ 0) where
    -- the ticks: none is late, and the worst responses are the machine's
    stepped : is_planned (planned_of t) ≡ true → number_heard (heard t xs) ≡ 0 → Kept (stepped_of (chart_of t p) xs f w)
    unfolding stepped_of chart_of
    stepped planned fine =
        let d = demand_3 bs read planned (brings xs) (list_valid t (table_good bs (reading_of bs) refl read) xs fine) in
        let tick : ℕ = late_tick (chart_of t p) xs (f + w) in
        tested tick (f + w) _ _
        (λ h.
        let late = ltb-true (late_at (chart_of t p) (brings xs) tick) t.n (first_yes (f + w) (is_late (chart_of t p) xs) h) in
        absurd (omega (arith, d.never_late tick)))
        (λ h. record { number_le = omega arith; worst-le = d.worst (f + w) })

    -- refusals 12 to 18
    called : is_planned (planned_of t) ≡ true → Kept (call_answer t p xs f w size)
    unfolding call_answer
    called planned =
        tested 0 (call_number t xs f w size) _ _
        (λ h. refusal _ _ _ _ (call_le t xs f w size))
        (λ h. stepped planned (allowed t xs f w size (omega arith)).good)

    -- refusal 11
    tried : (o : Result Plan NoPlan) → planned_of t ≡ o → Kept (cond (ltb 0 (number_of o)) (refused (number_of o) (names_of o) (mark_of o) (value_of o)) (call_answer t p xs f w size))
    unfolding number_of
    tried (Ok plan) e = called (ap is_planned e)
    tried (Err x) e = refusal 11 _ _ _ (omega arith)

  -- refusals 1 to 9
  answered : Kept (run_answer (reading_of bs) xs f w size)
  unfolding run_answer table_answer
  answered =
      tested 0 (number_in (reading_of bs)) _ _
      (λ h. refusal _ _ _ _ (omega (arith, table-le bs)))
      (λ h. tried (omega arith) (planned_of t) refl)

-- no worst response that a call returns is above the plan's bound,
pub responses : Responses
responses bs xs f w size = (answered bs xs f w size).worst-le

-- and 19 is never given
pub never_19 : Never19
never_19 bs xs f w size e = omega (arith, (answered bs xs f w size).number_le)
