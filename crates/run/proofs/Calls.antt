-- The ways in which a call of a run ends.
use Rattle.std.specs.Prelude.{Result, Ok, Err}
use Prim.Native.Nat.{ℕ, ◌+◌, ◌*◌, ◌≤◌, ◌<◌}
use mathlib.Core.Path.{◌≡◌, refl, sym}
use mathlib.Core.Bool.{Bool, true, false, cond}
use mathlib.Core.List.{List}
use native.Mathlib.Omega.{arith}
use borrow.Author.Tests.{lt-ltb, le-ltb, ltb-false}
use lib.ListN.{length}
use lib.Dec.{ltb}
use Rattle.lists.proofs.Tests.{neither}
use Rattle.table.specs.declared.Table.{Table}
use Rattle.table.specs.declared.Refusal.{Refusal}
use Rattle.table.specs.Table.{number_in, names_in, table_in}
use Rattle.plan.specs.declared.Plan.{Plan}
use Rattle.plan.specs.declared.NoPlan.{NoPlan}
use Rattle.plan.specs.Trial.{mark_number}
use Rattle.plan.specs.Trial.{number_of, names_of, mark_of, value_of}
use Rattle.plan.specs.Planning.{planned_of}
use Rattle.arrivals.specs.declared.Arrival.{Arrival}
use Rattle.machine.specs.Chart.{chart_of}
use Rattle.arrivals.specs.Check.{number_heard, position_heard}
use Rattle.run.specs.Run.{Ran, refused, stepped_of, shown_of}
use Rattle.run.specs.Answer.{bad_window, heard, call_number, call_names, call_answer, table_answer, run_answer, trace_after}

-- a window that is not bad is at most 4,096 ticks long, and ends by tick 1,000,000
pub window_small : (f w : ℕ) → bad_window f w ≡ false → (w ≤ 4096) × (f + w ≤ 1000000)
window_small f w h =
    let (a, b) = neither (ltb 4096 w) (ltb 1000000 (f + w)) h in
    (ltb-false 4096 w a, ltb-false 1000000 (f + w) b)

-- refusals 12 to 18 of a call, in their order
module _ (t : Table) (xs : List Arrival) (f w size : ℕ) where
  -- a number, and what it names
  abbrev Call : ℕ → ℕ → Type 0
  Call number names = (number ≡ call_number t xs f w size) × (names ≡ call_names t xs f w size)

  -- 12,
  pub bad_window_lem : bad_window f w ≡ true → Call 12 0
  unfolding call_number call_names
  bad_window_lem h = rw h (refl, refl)

  module _ (fine : bad_window f w ≡ false) where
    -- 13,
    pub too_short : size < t.m * w → Call 13 0
    unfolding call_number call_names
    too_short h = rw (fine, lt-ltb size (t.m * w) h) (refl, refl)

    module _ (long : t.m * w ≤ size) where
      -- 14,
      pub too_many : 4096 < length xs → Call 14 0
      unfolding call_number call_names
      too_many h = rw (fine, le-ltb size (t.m * w) long, lt-ltb 4096 (length xs) h) (refl, refl)

      -- and 15 to 18, or none, as the arrivals are
      pub as_heard : length xs ≤ 4096 → Call (number_heard (heard t xs)) (position_heard (heard t xs))
      unfolding call_number call_names
      as_heard h = rw (fine, le-ltb size (t.m * w) long, le-ltb 4096 (length xs) h) (refl, refl)

  -- a call without a refusal
  pub record Allowed : Type 0 where
    pub short : w ≤ 4096
    pub early : f + w ≤ 1000000
    pub room : t.m * w ≤ size
    pub few : length xs ≤ 4096
    pub good : (number_heard (heard t xs)) ≡ 0

  -- a call with number 0 is one
  pub allowed : call_number t xs f w size ≡ 0 → Allowed
  unfolding call_number
  allowed z = one (bad_window f w) refl (ltb size (t.m * w)) refl (ltb 4096 (length xs)) refl z
    where
      one : (b : Bool) → bad_window f w ≡ b → (d : Bool) → ltb size (t.m * w) ≡ d → (e : Bool) → ltb 4096 (length xs) ≡ e
          → cond b 12 (cond d 13 (cond e 14 (number_heard (heard t xs)))) ≡ 0 → Allowed
      one true p d r e s z = absurd (omega arith)
      one false p true r e s z = absurd (omega arith)
      one false p false r true s z = absurd (omega arith)
      one false p false r false s z =
          record {
            short = (window_small f w p).0;
            early = (window_small f w p).1;
            room = ltb-false size (t.m * w) r;
            few = ltb-false 4096 (length xs) s;
            good = z;
          }

-- what a call answers, and the trace that it leaves
module _ (r : Result Table Refusal) (xs : List Arrival) (f w : ℕ) (trace : List ℕ) where
  -- the answer and the trace afterwards
  abbrev pub Leaves : Ran → List ℕ → Type 0
  Leaves ran after = (ran ≡ run_answer r xs f w (length trace)) × (after ≡ trace_after r xs f w trace)

  -- 1 to 9
  pub bad_table : 0 < (number_in r) → Leaves (refused (number_in r) (names_in r) 0 0) trace
  unfolding run_answer trace_after
  bad_table h = rw (lt-ltb 0 (number_in r) h) (refl, refl)

  module _ (z : (number_in r) ≡ 0) (tried : Result Plan NoPlan) (p : tried ≡ planned_of (table_in r)) where
    -- 11
    pub no_plan_lem : (e : NoPlan) → tried ≡ Err e → Leaves (refused 11 e.row (mark_number e.mark) e.value) trace
    unfolding run_answer trace_after table_answer number_of names_of mark_of value_of
    no_plan_lem e q = rw (z, sym p, q) (refl, refl)

    module _ (plan : Plan) (e : tried ≡ Ok plan) where
      -- 12 to 18
      pub bad_call : (number names : ℕ) → Call (table_in r) xs f w (length trace) number names → 0 < number → Leaves (refused number names 0 0) trace
      unfolding run_answer trace_after table_answer call_answer number_of
      bad_call number names q h = rw (z, sym p, e, sym q.0, sym q.1, lt-ltb 0 number h) (refl, refl)

      -- no refusal up to there
      pub runs : call_number (table_in r) xs f w (length trace) ≡ 0 → Leaves (stepped_of (chart_of (table_in r) plan) xs f w) (shown_of (chart_of (table_in r) plan) xs f w trace)
      unfolding run_answer trace_after table_answer call_answer number_of
      runs q = rw (z, sym p, e, q) (refl, refl)
