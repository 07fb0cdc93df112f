-- The text of a plan, or of why there is none.
use Rattle.std.specs.Prelude.{ℕ, ◌+◌, List, [], ◌∷◌, ◌++◌, Result, Ok, Err, cond, get_or, ltb}
use Rattle.lists.specs.Tab.{joined}
use Rattle.table.specs.declared.Table.{Table}
use Rattle.table.specs.declared.Refusal.{Refusal}
use Rattle.table.specs.Table.{number_of, names_of}
use Rattle.plan.specs.declared.Plan.{Plan}
use Rattle.plan.specs.declared.NoPlan.{NoPlan}
use Rattle.plan.specs.Trial.{number_of as number_of_plan, names_of as names_of_plan, mark_of, value_of}
use Rattle.plan.specs.Planning.{planned_of}
use Rattle.listing.specs.Text.{line}

-- the words that lines begin with, letter by letter
abbrev plan_word : List ℕ
plan_word = 112 ∷ 108 ∷ 97 ∷ 110 ∷ []

abbrev resource_word : List ℕ
resource_word = 114 ∷ 101 ∷ 115 ∷ 111 ∷ 117 ∷ 114 ∷ 99 ∷ 101 ∷ []

abbrev task_word : List ℕ
task_word = 116 ∷ 97 ∷ 115 ∷ 107 ∷ []

abbrev refused_word : List ℕ
refused_word = 114 ∷ 101 ∷ 102 ∷ 117 ∷ 115 ∷ 101 ∷ 100 ∷ []

-- "A refusal prints one line: refused, number, what it names, mark", and it "ends with the value, 0 for every other number" than 11
unfoldable pub refused_line : ℕ → ℕ → ℕ → ℕ → List ℕ
refused_line number names mark value = line refused_word (number ∷ names ∷ mark ∷ value ∷ [])

-- plan: n, m, s
unfoldable pub plan_line : ℕ → ℕ → ℕ → List ℕ
plan_line n m s = line plan_word (n ∷ m ∷ s ∷ [])

-- resource: number, processor, "used ones only": an unused one has processor 0
unfoldable pub resource_line : List ℕ → ℕ → List ℕ
resource_line serves r = cond (ltb 0 (get_or serves r 0)) (line resource_word (r ∷ get_or serves r 0 ∷ [])) []

-- the lines of resources 1 to n
unfoldable pub resource_lines : List ℕ → ℕ → List ℕ
resource_lines serves n = joined n (λ i. resource_line serves (i + 1))

-- task: row, processor, D1, S, D2; rows are shown from 1 on
unfoldable pub task_line : List ℕ → List ℕ → List ℕ → List ℕ → ℕ → List ℕ
task_line processors d1s sections d2s k =
    line task_word ((k + 1) ∷ get_or processors k 0 ∷ get_or d1s k 0 ∷ get_or sections k 0 ∷ get_or d2s k 0 ∷ [])

-- the text of a plan for n rows
unfoldable pub plan_text : ℕ → ℕ → ℕ → List ℕ → List ℕ → List ℕ → List ℕ → List ℕ → List ℕ
plan_text n m s serves processors d1s sections d2s =
    (plan_line n m s ++ resource_lines serves 16) ++ joined n (task_line processors d1s sections d2s)

-- what comes of planning a table: the text of the plan, or refusal 11 with the row, the mark and the value of the last trial
unfoldable pub outcome_text : Table → Result Plan NoPlan → List ℕ
outcome_text t (Ok p) = plan_text t.n t.m p.s p.serves p.processor p.d1 p.section p.d2
outcome_text t (Err e) = refused_line (number_of_plan (Err e)) (names_of_plan (Err e)) (mark_of (Err e)) (value_of (Err e))

-- what the program says of any bytes, by what they say as a table
unfoldable pub listing_of : Result Table Refusal → List ℕ
listing_of (Ok t) = outcome_text t (planned_of t)
listing_of (Err e) = refused_line (number_of e) (names_of e) 0 0
