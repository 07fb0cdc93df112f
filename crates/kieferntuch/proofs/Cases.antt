-- The paper's "Numbers to hold it to": its starred cases of planning and of runs, as "Blocking is a tick too long" and "By how much it
-- failed" amend them, in one table, under one statement, each computed by the definitions. A figure in quotation marks is the paper's; the
-- others were worked out by hand from the amended rules.
use Prim.Native.Nat.{ℕ, ◌+◌, ◌-◌}
use mathlib.Core.Path.{◌≡◌, refl}
use mathlib.Core.Bool.{cond}
use mathlib.Core.List.{List, [], ◌∷◌, ◌++◌}
use lib.ListN.{length, get_or}
use lib.Dec.{ltb}
use Rattle.lists.specs.Tab.{tab, blank, joined}
use Rattle.table.specs.declared.Table.{Table}
use Rattle.table.proofs.Given.{PCP, NPP, Given, P, Q, written, reading, ReadBack, hex}
use Rattle.table.specs.Table.{table_in}
use Rattle.plan.specs.declared.Plan.{Plan}
use Rattle.plan.specs.Trial.{plan_in}
use Rattle.plan.proofs.Given.{planning}
use Rattle.sheet.specs.Fields.{width, behind, bytes_of, packed}
use Rattle.sheet.specs.Sheet.{header_bytes, processor_fields, resource_bytes, task_bytes, task_of, plan_bytes}
use Rattle.arrivals.specs.declared.Arrival.{Arrival}
use Rattle.run.specs.declared.Ran.{Ran}
use Rattle.run.proofs.Given.{running}
use Rattle.kieferntuch.specs.declared.Answer.{Answer}
use Rattle.kieferntuch.specs.Answer.{answer, plan_answer}
use Rattle.kieferntuch.specs.Sheet.{sheet_after}

-- the numbers of a plan's listing: n, m, s; the used resources, each with its processor; each row's processor, D1, S, D2
abbrev Listed : Type 0
Listed = (ℕ × ℕ × ℕ) × List (ℕ × ℕ) × List (ℕ × ℕ × ℕ × ℕ)

abbrev served_by : Plan → ℕ → List (ℕ × ℕ)
served_by p r = cond (ltb 0 (get_or p.serves r 0)) ((r, get_or p.serves r 0) ∷ []) []

abbrev listed : Table → Plan → Listed
listed t p = (
  (t.n, t.m, p.s),
  joined 16 (λ i. served_by p (i + 1)),
  tab t.n (λ k. (get_or p.processor k 0, get_or p.d1 k 0, get_or p.section k 0, get_or p.d2 k 0)),
)

-- what a call of planning comes to: the answer, and the sheet
abbrev called : Given → ℕ → List ℕ → Answer × List ℕ
called t at sheet = (plan_answer (reading t) at (length sheet), sheet_after (reading t) at sheet)

-- three numbers for each row, one behind the other
abbrev in_line : List (ℕ × ℕ × ℕ) → List ℕ
in_line [] = []
in_line ((x, y, z) ∷ rows) = x ∷ y ∷ z ∷ in_line rows

-- the answer of a run: number, what it names, mark, value; the worst responses, 0 "past row n"; jobs ended, units run, units owed
abbrev ran_with : ℕ × ℕ × ℕ × ℕ → List ℕ → ℕ × ℕ × ℕ → Ran
ran_with (number, names, mark, value) worst (jobs, run, owed) =
    record { number = number; names = names; mark = mark; value = value; worst = worst ++ blank (192 - length worst) 0; jobs = jobs; run = run; owed = owed }

-- a case: a table in numbers, what else is given, and what must come of it
data Case : Type 0 where
  -- its bytes, which are read as these numbers
  bytes : (table : Given) (is : List ℕ) → Case
  -- planning, from byte `at` of a lent sheet on: number, what it names, mark, value; the sheet stays as it is
  refused : (table : Given) (said : ℕ × ℕ × ℕ × ℕ) (at : ℕ) (sheet : List ℕ) → Case
  -- planning, from byte `at` of a lent sheet on: the plan; the sheet before and after
  planned : (table : Given) (plan : Listed) (at : ℕ) (sheet after : List ℕ) → Case
  -- a run: arrivals; f, w; the worst responses, row by row; jobs ended, units run, units owed; the trace before and after
  ran : (table : Given) (arrivals : List Arrival) (window : ℕ × ℕ) (worst : List (ℕ × ℕ × ℕ)) (counts : ℕ × ℕ × ℕ) (trace after : List ℕ) → Case
  -- a run that is refused: arrivals; f, w; number, what it names, mark, value; all else is 0, and the trace stays as it is
  not_run : (table : Given) (arrivals : List Arrival) (window : ℕ × ℕ) (said : ℕ × ℕ × ℕ × ℕ) (trace : List ℕ) → Case

-- what a case says
abbrev Holds : Case → Type 0
Holds (bytes t is) = (written t ≡ is) × ReadBack t
Holds (refused t (number, names, mark, value) at sheet) = called t at sheet ≡ (answer number names mark value, sheet)
Holds (planned t plan at sheet after) = (called t at sheet ≡ (answer 0 0 0 0, after)) × (listed (table_in (reading t)) (plan_in (planning t)) ≡ plan)
Holds (ran t arrivals (f, w) worst counts trace after) = running t arrivals f w trace ≡ (ran_with (0, 0, 0, 0) (in_line worst) counts, after)
Holds (not_run t arrivals (f, w) said trace) = running t arrivals f w trace ≡ (ran_with said [] (0, 0, 0), trace)

-- every case of a table holds
abbrev All : List Case → Type 0
All [] = Unit {0}
All (c ∷ cs) = Holds c × All cs

-- so many bytes, lent with 0xAA in each
abbrev AA : ℕ → List ℕ
AA size = blank size 0xAA

abbrev arrival : ℕ → ℕ → ℕ × ℕ × ℕ → Arrival
arrival tick row (x, y, z) = record { tick = tick; row = row; len1 = x; len2 = y; len3 = z }

-- tables that are refused by 11: a section whose bound is missing only after three members; a stage two; a sum; on three processors, by three
-- values; in two trials, by two
abbrev late_members : Given
late_members = (2, PCP, (4, 0, 2, 0, 1) ∷ (5, 0, 2, 0, 1) ∷ (8, 0, 1, 0, 1) ∷ [])

abbrev second_stage : Given
second_stage = (2, PCP, (10, 3, 1, 4, 1) ∷ (10, 1, 1, 7, 1) ∷ [])

abbrev by_the_sum : Given
by_the_sum = (2, PCP, (20, 2, 1, 2, 1) ∷ (20, 5, 1, 6, 1) ∷ [])

abbrev three_ways : Given
three_ways = (3, PCP, (10, 5, 0, 4, 0) ∷ (10, 2, 0, 1, 0) ∷ (10, 4, 0, 4, 0) ∷ (20, 4, 0, 8, 0) ∷ [])

abbrev two_trials : Given
two_trials = (3, PCP, (5, 1, 3, 1, 1) ∷ (5, 1, 3, 1, 2) ∷ [])

cases : List Case
cases =
    -- "Case P: m = 3; rows (T, C1, A, C2, resource) = (10,1,2,1,1), (20,2,3,2,1), (40,4,5,4,2). PCP table in hex: 06 30, then 00 00 A0 .."
    bytes (P PCP) (hex "06 30|00 00 A0 00 01 00 00 20 00 01 08|00 01 40 00 02 00 00 30 00 02 08|00 02 80 00 04 00 00 50 00 04 10")
    -- the other tables below
    ∷ bytes (P NPP) (hex "06 38|00 00 A0 00 01 00 00 20 00 01 08|00 01 40 00 02 00 00 30 00 02 08|00 02 80 00 04 00 00 50 00 04 10")
    ∷ bytes (Q 2 4) (hex "04 20|00 00 A0 00 04 00 00 10 00 04 08|00 00 A0 00 04 00 00 10 00 04 08")
    ∷ bytes (Q 2 5) (hex "04 20|00 00 A0 00 04 00 00 10 00 05 08|00 00 A0 00 04 00 00 10 00 04 08")
    ∷ bytes (Q 3 4) (hex "04 30|00 00 A0 00 04 00 00 10 00 04 08|00 00 A0 00 04 00 00 10 00 04 08")
    ∷ bytes (Q 3 5) (hex "04 30|00 00 A0 00 04 00 00 10 00 05 08|00 00 A0 00 04 00 00 10 00 04 08")
    ∷ bytes (2, PCP, (4, 0, 3, 0, 1) ∷ (4, 0, 3, 0, 1) ∷ []) (hex "04 20|00 00 40 00 00 00 00 30 00 00 08|00 00 40 00 00 00 00 30 00 00 08")
    ∷ bytes late_members (hex "06 20|00 00 40 00 00 00 00 20 00 00 08|00 00 50 00 00 00 00 20 00 00 08|00 00 80 00 00 00 00 10 00 00 08")
    ∷ bytes second_stage (hex "04 20|00 00 A0 00 03 00 00 10 00 04 08|00 00 A0 00 01 00 00 10 00 07 08")
    ∷ bytes by_the_sum (hex "04 20|00 01 40 00 02 00 00 10 00 02 08|00 01 40 00 05 00 00 10 00 06 08")
    ∷ bytes three_ways (hex "08 30|00 00 A0 00 05 00 00 00 00 04 00|00 00 A0 00 02 00 00 00 00 01 00|00 00 A0 00 04 00 00 00 00 04 00|00 01 40 00 04 00 00 00 00 08 00")
    ∷ bytes two_trials (hex "04 30|00 00 50 00 01 00 00 30 00 01 08|00 00 50 00 01 00 00 30 00 01 10")
    ∷ bytes (2, PCP, (1, 1, 0, 0, 0) ∷ []) (hex "02 20|00 00 10 00 01 00 00 00 00 00 00")
    -- *P under PCP: S 4, 5, 10; *P's plan, row 1: 10 00 00 80 00 20 00 00 80. "Its first four bytes: 06 31 08 40."
    ∷ planned (P PCP) ((3, 3, 1), (1, 1) ∷ (2, 1) ∷ [], (2, 1, 4, 1) ∷ (2, 4, 5, 4) ∷ (2, 10, 10, 10) ∷ []) 0 (AA 39)
    (hex "06 31|08 40 00 00 00 00 00 00 00 00|10 00 00 80 00 20 00 00 80|10 00 02 00 00 28 00 02 00|10 00 05 00 00 50 00 05 00")
    -- *Under NPP: S 6, 9, 10, all fit.
    ∷ planned (P NPP) ((3, 3, 1), (1, 1) ∷ (2, 1) ∷ [], (2, 1, 6, 1) ∷ (2, 4, 9, 4) ∷ (2, 10, 10, 10) ∷ []) 0 (AA 39)
    (hex "06 31|08 40 00 00 00 00 00 00 00 00|10 00 00 80 00 30 00 00 80|10 00 02 00 00 48 00 02 00|10 00 05 00 00 50 00 05 00")
    -- "*Q: two rows (10,4,1,4,1), PCP, m = 2: refused 11, row 2, mark 2."; S is 2 and the limit 8; D1: 4, then 4 + 8
    ∷ refused (Q 2 4) (11, 2, 2, 12) 0 (AA 30)
    -- *Q with m = 2 and C2 = 5 in row 1: the same, but D1: 4, then 4 + 9
    ∷ refused (Q 2 5) (11, 2, 2, 13) 0 (AA 30)
    -- *m = 3: planned, rows on 2 and 3, with 4, 1, 4 and 4, 2, 4.
    ∷ planned (Q 3 4) ((2, 3, 1), (1, 1) ∷ [], (2, 4, 1, 4) ∷ (3, 4, 2, 4) ∷ []) 0 (AA 30)
    (hex "04 31|08 00 00 00 00 00 00 00 00 00|10 00 02 00 00 08 00 02 00|18 00 02 00 00 10 00 02 00")
    -- *Q with m = 3 and C2 = 5 in row 1: planned too, since 4 + 1 + 5 is row 1's period.
    ∷ planned (Q 3 5) ((2, 3, 1), (1, 1) ∷ [], (2, 4, 1, 5) ∷ (3, 4, 2, 4) ∷ []) 0 (AA 30)
    (hex "04 31|08 00 00 00 00 00 00 00 00 00|10 00 02 00 00 08 00 02 80|18 00 02 00 00 10 00 02 00")
    -- "*m = 2, two rows (4,0,3,0,1), PCP: 11, row 1, mark 1."; 3 + 2 is above the limit 4 at once
    ∷ refused (2, PCP, (4, 0, 3, 0, 1) ∷ (4, 0, 3, 0, 1) ∷ []) (11, 1, 1, 5) 0 (AA 30)
    -- the first two sections have bounds 3 and 4; row 3, limit 8: 1, then 1 + 2 + 2 = 5, 1 + 4 + 2 = 7, and 1 + 4 + 4 = 9
    ∷ refused late_members (11, 3, 1, 9) 0 (AA 39)
    -- row 2: S is 2 and the limit 8; D1: 1, then 1 + 7 = 8, which stays 8; D2: 7, then 7 + 7 = 14
    ∷ refused second_stage (11, 2, 2, 14) 0 (AA 30)
    -- row 2: S is 2 and the limit 18; D1: 5, then 5 + 4 = 9; D2: 6, then 6 + 4 = 10; 9 + 2 + 10 is above 20
    ∷ refused by_the_sum (11, 2, 2, 21) 0 (AA 30)
    -- rows 1 to 3 are on processors 1 to 3, with 9, 3 and 8 ticks of work; row 4, limit 20, on processor 1, D1: 4, then 13, 22; on 2, D1: 4, then
    -- 7; D2: 8, then 11, 14; 7 + 0 + 14 = 21; on 3, D1: 4, then 12, 20; D2: 8, then 16, 24; the smallest of 22, 21 and 24 is processor 2's
    ∷ refused three_ways (11, 4, 2, 21) 0 (AA 48)
    -- with one processor for sections row 2's has none: 3, then 6, above 5; with two, S is 3 and the limit 2, D1: 1, then 1 + 2: the last trial's
    ∷ refused two_trials (11, 2, 2, 3) 0 (AA 30)
    -- "*m = 2, one row (1,1,0,0,0): s 0, processor 1, bounds 1, 0, 0."
    ∷ planned (2, PCP, (1, 1, 0, 0, 0) ∷ []) ((1, 2, 0), [], (1, 1, 0, 0) ∷ []) 0 (AA 21)
    (hex "02 20|00 00 00 00 00 00 00 00 00 00|08 00 00 80 00 00 00 00 00")
    -- the same from byte 2 of a sheet of 25 bytes on: "bytes before and behind are untouched"
    ∷ planned (2, PCP, (1, 1, 0, 0, 0) ∷ []) ((1, 2, 0), [], (1, 1, 0, 0) ∷ []) 2
    (hex "01 02|03 04|05 06 07 08 09 0A 0B 0C 0D 0E|0F 10 11 12 13 14 15 16 17|18 19")
    (hex "01 02|02 20|00 00 00 00 00 00 00 00 00 00|08 00 00 80 00 00 00 00 00|18 19")
    -- the same from byte 2 on, one byte short: "sheet has fewer than at + 12 + 9n bytes"
    ∷ refused (2, PCP, (1, 1, 0, 0, 0) ∷ []) (10, 0, 0, 0) 2 (AA 22)
    -- Q with m = 2, one byte short: "The lowest number wins", so not 11
    ∷ refused (Q 2 4) (10, 0, 0, 0) 0 (AA 29)
    -- *P, PCP, row 1 arrives at 0 with 1, 2, 1; f 0, w 8: processor 2 shows 40 at tick 0 and C0 at 5, processor 1 shows 80 at ticks 1
    -- and 2. "Worst 1, 2, 1; 1 job, run 4, owed 0."; two bytes are lent behind the trace
    ∷ ran (P PCP) (arrival 0 1 (1, 2, 1) ∷ []) (0, 8) ((1, 2, 1) ∷ []) (1, 4, 0) (AA 26)
    (hex "00 40 00|80 00 00|80 00 00|00 00 00|00 00 00|00 C0 00|00 00 00|00 00 00|AA AA")
    -- *"w 6 now: worst 1, 2, 1; 1 job, run 4, owed 0"
    ∷ ran (P PCP) (arrival 0 1 (1, 2, 1) ∷ []) (0, 6) ((1, 2, 1) ∷ []) (1, 4, 0) (AA 18)
    (hex "00 40 00|80 00 00|80 00 00|00 00 00|00 00 00|00 C0 00")
    -- w 5: stage two is not yet released; worst 1, 2, 0; no job, run 3, owed 1
    ∷ ran (P PCP) (arrival 0 1 (1, 2, 1) ∷ []) (0, 5) ((1, 2, 0) ∷ []) (0, 3, 1) (AA 15)
    (hex "00 40 00|80 00 00|80 00 00|00 00 00|00 00 00")
    -- "*P, PCP, row 2 at 0 (2, 3, 2), row 1 at 4 (1, 2, 1): row 2's section takes ticks 4 to 6, row 1's section is released at 5,
    -- takes 7 and 8, response 4."; both stages two are released at 9; the window begins at tick 3
    ∷ ran (P PCP) (arrival 0 2 (2, 3, 2) ∷ arrival 4 1 (1, 2, 1) ∷ []) (3, 9) ((1, 4, 1) ∷ (2, 3, 3) ∷ []) (2, 11, 0) (AA 27)
    (hex "00 00 00|81 40 00|81 00 00|81 00 00|80 00 00|80 00 00|00 C0 00|00 C1 00|00 C1 00")
    -- P, NPP, row 3 at 0 (4, 5, 4), row 1 at 10 (1, 2, 1): row 3's section takes ticks 10 to 14, row 1's section is released at 11,
    -- takes 15 and 16, response 6: its bound; the window begins at tick 10
    ∷ ran (P NPP) (arrival 0 3 (4, 5, 4) ∷ arrival 10 1 (1, 2, 1) ∷ []) (10, 8) ((1, 6, 1) ∷ (0, 0, 0) ∷ (4, 5, 0) ∷ []) (1, 13, 4) (AA 24)
    (hex "82 40 00|82 00 00|82 00 00|82 00 00|82 00 00|80 00 00|80 00 00|00 C0 00")
    -- a run of Q with m = 2: planning's answer, and all else is 0
    ∷ not_run (Q 2 4) (arrival 0 1 (4, 1, 4) ∷ []) (0, 8) (11, 2, 2, 12) (AA 16)
    ∷ []

-- "Cases marked * are the proved ones."
every_case : All cases
unfolding cases running plan_answer sheet_after width behind bytes_of packed header_bytes processor_fields resource_bytes task_bytes task_of plan_bytes
every_case = ((refl, refl), ((refl, refl), ((refl, refl), ((refl, refl), ((refl, refl), ((refl, refl), ((refl, refl), ((refl, refl), ((refl, refl), ((refl, refl), ((refl, refl), ((refl, refl), ((refl, refl), ((refl, refl), ((refl, refl), (refl, (refl, ((refl, refl), ((refl, refl), (refl, (refl, (refl, (refl, (refl, (refl, ((refl, refl), ((refl, refl), (refl, (refl, (refl, (refl, (refl, (refl, (refl, (refl, tt)))))))))))))))))))))))))))))))))))
