-- The answers that cross to C and Rust.
use Rattle.std.specs.Prelude.{ℕ, ◌+◌, ◌*◌, ⊤, Bool, cond, ltb, Result, Ok, Err}
use Rattle.table.specs.declared.Table.{Table}
use Rattle.table.specs.declared.Refusal.{Refusal}
use Rattle.table.specs.Table.{number_in, names_in}
use Rattle.plan.specs.declared.Plan.{Plan}
use Rattle.plan.specs.declared.NoPlan.{NoPlan}
use Rattle.plan.specs.Trial.{number_of, names_of, mark_of, value_of}
use Rattle.plan.specs.Planning.{planned_of}
use Rattle.kieferntuch.specs.declared.Answer.{Answer}

abbrev pub answer : ℕ → ℕ → ℕ → ℕ → Answer
answer number names mark value = record { number = number; names = names; mark = mark; value = value }

-- what a reading answers: "Mark is 0 but for 11", and so is the value
abbrev pub answer_of : Result Table Refusal → Answer
answer_of r = answer (number_in r) (names_in r) 0 0

-- what an outcome of planning answers
abbrev pub outcome_answer : Result Plan NoPlan → Answer
outcome_answer o = answer (number_of o) (names_of o) (mark_of o) (value_of o)

-- what a call answers that is refused with an answer, or not refused
abbrev pub answered : Result ⊤ Answer → Answer
answered (Ok done) = answer 0 0 0 0
answered (Err a) = a

-- 10: "sheet has fewer than at + 12 + 9n bytes"
abbrev pub short : ℕ → ℕ → ℕ → Bool
short size at n = ltb size (at + (12 + 9 * n))

-- what planning answers, with a sheet of this size: "The lowest number wins"
unfoldable pub plan_answer : Result Table Refusal → ℕ → ℕ → Answer
plan_answer (Err e) at size = answer_of (Err e)
plan_answer (Ok t) at size = cond (short size at t.n) (answer 10 0 0 0) (outcome_answer (planned_of t))
