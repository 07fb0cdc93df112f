-- The sheet once a call of planning is over.
use Rattle.std.specs.Prelude.{ℕ, ◌+◌, List, ◌++◌, Result, cond, length, take, drop, ltb}
use Rattle.table.specs.declared.Table.{Table}
use Rattle.table.specs.declared.Refusal.{Refusal}
use Rattle.table.specs.Table.{table_in}
use Rattle.plan.specs.declared.Plan.{Plan}
use Rattle.plan.specs.Trial.{plan_in}
use Rattle.plan.specs.Planning.{planned_of}
use Rattle.sheet.specs.Sheet.{plan_bytes}
use Rattle.kieferntuch.specs.Answer.{plan_answer}

-- "written from byte `at` of the lent sheet on; bytes before and behind are untouched"
abbrev pub written_at : List ℕ → ℕ → List ℕ → List ℕ
written_at sheet at bytes = take at sheet ++ (bytes ++ drop (at + length bytes) sheet)

-- the bytes of a plan of table t
abbrev pub bytes_of : Table → Plan → List ℕ
bytes_of t p = plan_bytes t.n t.m p.s p.serves p.processor p.d1 p.section p.d2

-- "Nothing lent changes on refusal"
unfoldable pub sheet_after : Result Table Refusal → ℕ → List ℕ → List ℕ
sheet_after r at sheet =
    cond (ltb 0 (plan_answer r at (length sheet)).number)
    sheet
    (written_at sheet at (bytes_of (table_in r) (plan_in (planned_of (table_in r)))))
