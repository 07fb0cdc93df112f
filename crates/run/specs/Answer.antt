-- What a run answers, and the trace that it leaves: "a run 1 to 9 and 11 to 19", "The lowest number wins".
use Rattle.std.specs.Prelude.{ℕ, ◌+◌, ◌*◌, Bool, cond, ◌||◌, List, length, ltb, Result, ⊤}
use Rattle.table.specs.declared.Table.{Table}
use Rattle.table.specs.declared.Refusal.{Refusal}
use Rattle.table.specs.Table.{number_in, names_in, table_in}
use Rattle.plan.specs.declared.Plan.{Plan}
use Rattle.plan.specs.declared.NoPlan.{NoPlan}
use Rattle.plan.specs.Trial.{number_of, names_of, mark_of, value_of, plan_in}
use Rattle.plan.specs.Planning.{planned_of}
use Rattle.arrivals.specs.declared.Arrival.{Arrival}
use Rattle.arrivals.specs.declared.Unheard.{Unheard}
use Rattle.arrivals.specs.Check.{heard_of, number_heard, position_heard}
use Rattle.machine.specs.Chart.{chart_of}
use Rattle.run.specs.Run.{Ran, refused, stepped_of, shown_of}

-- 12: "w above 4,096 or f + w above 1,000,000"
abbrev pub bad_window : ℕ → ℕ → Bool
bad_window f w = ltb 4096 w || ltb 1000000 (f + w)

-- what a table's check of the arrivals says
abbrev pub heard : Table → List Arrival → Result ⊤ Unheard
heard t xs = heard_of t.n t.period t.c1 t.a t.c2 xs

-- the refusal 12 to 18 of a call with a trace of this size, or 0; and the position that it names
unfoldable pub call_number : Table → List Arrival → ℕ → ℕ → ℕ → ℕ
call_number t xs f w size =
    cond (bad_window f w) 12
    (cond (ltb size (t.m * w)) 13
    (cond (ltb 4096 (length xs)) 14
    (number_heard (heard t xs))))

unfoldable pub call_names : Table → List Arrival → ℕ → ℕ → ℕ → ℕ
call_names t xs f w size =
    cond (bad_window f w) 0
    (cond (ltb size (t.m * w)) 0
    (cond (ltb 4096 (length xs)) 0
    (position_heard (heard t xs))))

-- what a run of a planned table answers
unfoldable pub call_answer : Table → Plan → List Arrival → ℕ → ℕ → ℕ → Ran
call_answer t p xs f w size =
    cond (ltb 0 (call_number t xs f w size))
    (refused (call_number t xs f w size) (call_names t xs f w size) 0 0)
    (stepped_of (chart_of t p) xs f w)

-- 11: "every trial failed"
unfoldable pub table_answer : Table → Result Plan NoPlan → List Arrival → ℕ → ℕ → ℕ → Ran
table_answer t tried xs f w size =
    cond (ltb 0 (number_of tried))
    (refused (number_of tried) (names_of tried) (mark_of tried) (value_of tried))
    (call_answer t (plan_in tried) xs f w size)

-- what a call answers: "The lowest number wins"
unfoldable pub run_answer : Result Table Refusal → List Arrival → ℕ → ℕ → ℕ → Ran
run_answer r xs f w size =
    cond (ltb 0 (number_in r))
    (refused (number_in r) (names_in r) 0 0)
    (table_answer (table_in r) (planned_of (table_in r)) xs f w size)

-- "Nothing lent changes on refusal, except that 19 leaves the m × w trace bytes zero."
unfoldable pub trace_after : Result Table Refusal → List Arrival → ℕ → ℕ → List ℕ → List ℕ
trace_after r xs f w trace =
    cond (ltb 0 (number_in r) || (ltb 0 (number_of (planned_of (table_in r))) || ltb 0 (call_number (table_in r) xs f w (length trace))))
    trace
    (shown_of (chart_of (table_in r) (plan_in (planned_of (table_in r)))) xs f w trace)
