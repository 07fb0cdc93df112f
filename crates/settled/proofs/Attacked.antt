-- The paper's wrong programs, "Try these against the statements", each against the contract of `kieferntuch_plan` or `kieferntuch_run`.
-- A program is any function from a call to what it gives. Each kind of wrong program is described by as little as it takes, mostly by what
-- it does where it answers with number 0, and `no-..` says that none of that kind meets the contract: tables of one row are enough to see
-- it. Beside it stands what each program does that meets the contract, by the demand that the paper names in brackets. Programs has one of each kind.
use Prim.Native.Nat.{ℕ, ◌+◌, ◌*◌, ◌≤◌, ◌<◌}
use mathlib.Core.Path.{◌≡◌, refl, sym, ◌∙◌, ap}
use mathlib.Core.List.{List, [], ◌∷◌}
use mathlib.Core.Logic.{◌↔◌}
use native.Mathlib.Omega.{arith}
use denote.Bor.{Bor}
use denote.MutBor.{MutBor}
use denote.Triple.Entry.{Args}
use lib.ListN.{length, get_or, take, drop}
use Rattle.lists.specs.Tab.{tab, blank}
use Rattle.lists.proofs.Tab.{get_or-blank}
use Rattle.table.specs.Table.{reading_of, table_in}
use Rattle.table.proofs.Good.{table_good}
use Rattle.table.proofs.Given.{PCP, Given, written, hex}
use Rattle.plan.specs.declared.Plan.{Plan}
use Rattle.plan.specs.Tasks.{tasks_of}
use Rattle.plan.specs.Trial.{plan_in}
use Rattle.plan.specs.Planning.{planned_of}
use Rattle.plan.specs.Bounds.{RowBounds}
use Rattle.plan.proofs.Covers.{plan_bounds}
use Rattle.plan.proofs.Exactly.{Succeeds}
use Rattle.sheet.specs.Fields.{width, behind, bytes_of, packed}
use Rattle.sheet.specs.Sheet.{header_bytes, processor_fields, resource_bytes, task_bytes, task_of, plan_bytes}
use Rattle.sheet.proofs.ReadBack.{PlanRead}
use Rattle.arrivals.specs.declared.Arrival.{Arrival}
use Rattle.arrivals.specs.Arrival.{brings}
use Rattle.machine.specs.Tick.{jobs_at}
use Rattle.run.specs.declared.Ran.{Ran}
use Rattle.run.specs.Run.{done}
use Rattle.run.specs.Answer.{run_answer, trace_after}
use Rattle.run.specs.Brought.{busy, arrived, still_there}
use Rattle.run.proofs.Accepted.{chart_in}
use Rattle.run.proofs.Totals.{run_is_busy_trace, jobs_plus_open}
use Rattle.run.proofs.Given.{running}
use Rattle.kieferntuch.specs.declared.Answer.{Answer}
use Rattle.kieferntuch.specs.Answer.{plan_answer}
use Rattle.kieferntuch.specs.Sheet.{written_at, sheet_after}
use Rattle.kieferntuch.proofs.Exactly.{Ready, written_exactly, planned}
use Rattle.kieferntuch.proofs.ReadBack.{sheet_read_back}
use Rattle.kieferntuch.specs.contracts.kieferntuch_plan as kieferntuch_plan_contract
use Rattle.kieferntuch.proofs.kieferntuch_plan as kieferntuch_plan_proof
use Rattle.kieferntuch.specs.contracts.kieferntuch_run as kieferntuch_run_contract
use Rattle.settled.specs.Settled.{Program, Meets}
use Rattle.settled.proofs.Records.{run_asks, run_says}

-- programs in the place of the two functions, and that they meet the contract
abbrev pub Planner : Type 0
Planner = Program kieferntuch_plan_contract.ended

abbrev pub Plans : Planner → Type 0
Plans = Meets kieferntuch_plan_contract.ended kieferntuch_plan_proof.Reads.Pre kieferntuch_plan_proof.Reads.Post

abbrev pub Runner : Type 0
Runner = Program kieferntuch_run_contract.ended

abbrev pub Runs : Runner → Type 0
Runs = Meets kieferntuch_run_contract.ended run_asks run_says

-- n and m of a table's bytes
abbrev pub rows_of : List ℕ → ℕ
rows_of table = (table_in (reading_of table)).n

abbrev pub processors_of : List ℕ → ℕ
processors_of table = (table_in (reading_of table)).m

-- "a planner that refuses all": with whatever number
abbrev pub RefusesAll : Planner → Type 0
RefusesAll f = (κs : _) (a : _) → 0 < (f κs a).0.number

-- "one with a fixed plan": one for all tables, or one for each n and m
abbrev pub FixedPlan : (ℕ → ℕ → List ℕ) → Planner → Type 0
FixedPlan fixed f =
    (κs : _) (a : _) →
    let (table, (at, (sheet, _))) = a in
    let (r, (_, (_, (after, _)))) = f κs a in
    r.number ≡ 0 → after ≡ written_at sheet.now at (fixed (rows_of table.now) (processors_of table.now))

-- "a run that writes nothing"
abbrev pub WritesNothing : Runner → Type 0
WritesNothing f =
    (κs : _) (a : _) →
    let (_, (_, (_, (_, (trace, _))))) = a in
    let (r, (_, (_, (_, (_, (after, _)))))) = f κs a in
    r.number ≡ 0 → after ≡ trace.now

-- "one that steps the first tick and leaves the rest idle": asked where a trace of zeros is lent, so it may write the rest or not
abbrev pub FirstTickOnly : Runner → Type 0
FirstTickOnly f =
    (κs : _) (a : _) →
    let (table, (_, (_, (ticks, (trace, _))))) = a in
    let (r, (_, (_, (_, (_, (after, _)))))) = f κs a in
    (size : ℕ) → trace.now ≡ blank size 0 → r.number ≡ 0 →
    (k : ℕ) → processors_of table.now ≤ k → k < processors_of table.now * ticks → get_or after k 0 ≡ 0

-- a number told by the table, the arrivals, the first tick, the number of ticks and the trace of a call
abbrev pub Told : Type 0
Told = List ℕ → List Arrival → ℕ → ℕ → List ℕ → ℕ

-- all of these come before tick e
abbrev pub Come : List Arrival → ℕ → Type 0
Come [] e = Unit {0}
Come (x ∷ xs) e = (x.tick < e) × Come xs e

-- it is told without a machine, as any fixed number, how many arrivals there are, or the sum of their lengths: how long the run goes on
-- behind the last arrival makes no difference
abbrev pub Blind : Told → Type 0
Blind u = (table : List ℕ) (xs : List Arrival) (from v w : ℕ) (trace : List ℕ) → Come xs (from + v) → Come xs (from + w) → u table xs from v trace ≡ u table xs from w trace

-- "a made_up count of units or jobs"
abbrev pub MadeUp : (Ran → ℕ) → Told → Runner → Type 0
MadeUp count u f =
    (κs : _) (a : _) →
    let (table, (arrivals, (from, (ticks, (trace, _))))) = a in
    let (r, _) = f κs a in
    r.number ≡ 0 → count r ≡ u table.now arrivals.now from ticks trace.now

-- ---- two tables of one row on two processors: a stage one of 1 or 2 ticks, as long as the period; D1 is 1 in the one plan, and 2 in the other

abbrev one : ℕ → Given
one t = (2, PCP, (t, t, 0, 0, 0) ∷ [])

abbrev table : ℕ → List ℕ
table t = written (one t)

abbrev sheet_21 : List ℕ
sheet_21 = blank 21 0

abbrev trace_6 : List ℕ
trace_6 = blank 6 0

-- a lent slice with these in it, and one that may be written
abbrev lent : {A : Type 0} → List A → Bor (List A)
lent xs = record { ref_ptr = (0, 0); now = xs }

abbrev lent_mut : {A : Type 0} → List A → MutBor (List A)
lent_mut xs = record { ref_ptr = (0, 0); ghost_name = 0; now = xs }

abbrev plan_call : ℕ → Args (kieferntuch_plan_contract.ended).signature ([], ([], tt))
plan_call t = (lent (table t), (0, (lent_mut sheet_21, tt)))

-- a job of two ticks that arrives at tick 0: with 3 ticks of it its first stage has run, and its other stages, which are empty, have ended; with
-- 1 tick, one unit is run and one owed
abbrev arrivals : List Arrival
arrivals = record { tick = 0; row = 1; len1 = 2; len2 = 0; len3 = 0 } ∷ []

abbrev run_call : ℕ → Args (kieferntuch_run_contract.ended).signature ([], ([], ([], tt)))
run_call ticks = (lent (table 2), (lent arrivals, (0, (ticks, (lent_mut trace_6, tt)))))

abbrev three_ticks : Ran
three_ticks = done (2 ∷ blank 191 0) (record { jobs = 1; run = 2; owed = 0 })

abbrev one_tick : Ran
one_tick = done (blank 192 0) (record { jobs = 0; run = 1; owed = 1 })

-- by the definitions: n, m, the number that planning answers, and the sheet afterwards; what a run answers, and the trace afterwards
abbrev plan_of : ℕ → ℕ × ℕ × ℕ × List ℕ
plan_of t = (rows_of (table t), processors_of (table t), (plan_answer (reading_of (table t)) 0 (length sheet_21)).number, sheet_after (reading_of (table t)) 0 sheet_21)

abbrev ran_of : ℕ → Ran × List ℕ
ran_of ticks = (run_answer (reading_of (table 2)) arrivals 0 ticks (length trace_6), trace_after (reading_of (table 2)) arrivals 0 ticks trace_6)

record Facts : Type 0 where
  short : plan_of 1 ≡ (1, 2, 0, hex "02 20|00 00 00 00 00 00 00 00 00 00|08 00 00 80 00 00 00 00 00")
  long : plan_of 2 ≡ (1, 2, 0, hex "02 20|00 00 00 00 00 00 00 00 00 00|08 00 01 00 00 00 00 00 00")
  three : ran_of 3 ≡ (three_ticks, hex "40 00|40 00|00 00")
  first : ran_of 1 ≡ (one_tick, hex "40 00|00 00|00 00")

facts : Facts
unfolding running plan_answer sheet_after width behind bytes_of packed header_bytes processor_fields resource_bytes task_bytes task_of plan_bytes
facts = record { short = refl; long = refl; three = refl; first = refl }

-- ---- none of them meets the contract

module _ (f : Planner) (meets : Plans f) where
  -- what it answers in such a call, and the sheet that it leaves
  abbrev answered : ℕ → Answer
  answered t = (f ([], ([], tt)) (plan_call t)).0

  abbrev left : ℕ → List ℕ
  left t = (f ([], ([], tt)) (plan_call t)).1.1.1.0

  -- by the contract it is what the definitions say
  as_planned : (t : ℕ) → (rows_of (table t), processors_of (table t), (answered t).number, left t) ≡ plan_of t
  as_planned t =
      let (answer, after) = meets ([], ([], tt)) (plan_call t) tt in
      λ i. (rows_of (table t), processors_of (table t), (answer i).number, after i)

  -- "a planner that refuses all": the table has a plan
  pub no_refuses_all : RefusesAll f → ⊥
  no_refuses_all wrong =
      let z : (answered 1).number ≡ 0 = λ i. ((as_planned 1 ∙ facts.short) i).2 in
      omega (arith, wrong ([], ([], tt)) (plan_call 1))

  -- "one with a fixed plan": the two tables have the same n and m, and plans that differ
  pub no_fixed_plan : (fixed : ℕ → ℕ → List ℕ) → FixedPlan fixed f → ⊥
  unfolding tab
  no_fixed_plan fixed wrong = omega (arith, byte 1 0 _ facts.short refl, byte 2 1 _ facts.long refl)
    where
      byte : (t b : ℕ) (sheet : List ℕ) → plan_of t ≡ (1, 2, 0, sheet) → get_or sheet 14 0 ≡ b → b ≡ get_or (written_at sheet_21 0 (fixed 1 2)) 14 0
      byte t b sheet e g =
          let p = as_planned t ∙ e in
          sym g
          ∙ ap (λ (x : List ℕ). get_or x 14 0) ((λ i. (sym p i).3) ∙ wrong _ _ (λ i. (p i).2) ∙ λ i. written_at sheet_21 0 (fixed (p i).0 (p i).1))

  -- "(demand 2, "exactly when")": it answers 0 exactly when the table is good, the sheet has room, and a listed trial succeeds
  pub plans_exactly : (κs : _) (a : _) →
      let (table, (at, (sheet, _))) = a in
      ((f κs a).0.number ≡ 0) ↔ (Ready table.now at (length sheet.now) × Succeeds (tasks_of (table_in (reading_of table.now))))
  plans_exactly κs a =
      let (table, (at, (sheet, _))) = a in
      rw (meets κs a tt).0 (written_exactly table.now at (length sheet.now))

  -- "(demand 2, least bounds)": where it answers 0, the sheet says a plan each of whose bounds is the least that covers its demand
  pub bounds_are_least : (κs : _) (a : _) →
      let (table, (at, _)) = a in
      let (r, (_, (_, (after, _)))) = f κs a in
      let t = (table_in (reading_of table.now)) in
      r.number ≡ 0 →
      (p : Plan) × PlanRead (take (12 + 9 * t.n) (drop at after)) t.n t.m p.s p.serves p.processor p.d1 p.section p.d2 × ((i : ℕ) → i < t.n → RowBounds t p i)
  bounds_are_least κs a z =
      let (table, (at, (sheet, _))) = a in
      let (answer, after) = meets κs a tt in
      let t = (table_in (reading_of table.now)) in
      let e : (plan_answer (reading_of table.now) at (length sheet.now)).number ≡ 0 = (λ i. (sym answer i).number) ∙ z in
      let ((good, room), found) = planned table.now at (length sheet.now) e in
      (plan_in (planned_of t), rw after (sheet_read_back table.now at sheet.now e), plan_bounds t (table_good table.now (reading_of table.now) refl good) found)

module _ (f : Runner) (meets : Runs f) where
  -- what it answers in such a call, and the trace that it leaves; by the contract it is what the definitions say
  abbrev ran : ℕ → Ran
  ran ticks = (f ([], ([], ([], tt))) (run_call ticks)).0

  abbrev shown : ℕ → List ℕ
  shown ticks = (f ([], ([], ([], tt))) (run_call ticks)).1.1.1.1.1.0

  as_ran : (ticks : ℕ) → (ran ticks, shown ticks) ≡ ran_of ticks
  as_ran ticks =
      let (answer, after) = meets ([], ([], ([], tt))) (run_call ticks) tt in
      λ i. (answer i, after i)

  no_refusal : (ran 3).number ≡ 0
  no_refusal i = ((as_ran 3 ∙ facts.three) i).0.number

  -- in the second tick processor 1 runs the stage one
  second_tick : get_or (shown 3) 2 0 ≡ 0x40
  unfolding tab
  second_tick i = get_or ((as_ran 3 ∙ facts.three) i).1 2 0

  -- "a run that writes nothing"
  pub no_writes_nothing : WritesNothing f → ⊥
  no_writes_nothing wrong = omega (arith, second_tick, ap (λ (x : List ℕ). get_or x 2 0) (wrong _ _ no_refusal), get_or-blank {A = ℕ} 6 0 2)

  -- "one that steps the first tick and leaves the rest idle"
  pub no_first_tick_only : FirstTickOnly f → ⊥
  no_first_tick_only wrong =
      let m : processors_of (table 2) ≡ 2 = λ i. (facts.long i).1 in
      omega (arith, second_tick, wrong _ _ 6 refl no_refusal 2 (omega arith) (omega arith))

  -- a count that differs after one tick and after three is not told without a machine
  made_up : (count : Ran → ℕ) → (count three_ticks ≡ count one_tick → ⊥) → (u : Told) → Blind u → MadeUp count u f → ⊥
  made_up count differs u blind wrong =
      differs (counted 3 three_ticks _ refl facts.three ∙ blind (table 2) arrivals 0 3 1 trace_6 (omega arith, tt) (omega arith, tt) ∙ sym (counted 1 one_tick _ refl facts.first))
    where
      counted : (ticks : ℕ) (r : Ran) (after : List ℕ) → r.number ≡ 0 → ran_of ticks ≡ (r, after) → count r ≡ u (table 2) arrivals 0 ticks trace_6
      counted ticks r after z e =
          let p = as_ran ticks ∙ e in
          (λ i. count (sym p i).0) ∙ wrong _ _ ((λ i. (p i).0.number) ∙ z)

  -- "a made_up count of units or jobs", and of units owed
  pub no_made_up_units : (u : Told) → Blind u → MadeUp (λ r. r.run) u f → ⊥
  no_made_up_units = made_up (λ r. r.run) (λ e. omega arith)

  pub no_made_up_jobs : (u : Told) → Blind u → MadeUp (λ r. r.jobs) u f → ⊥
  no_made_up_jobs = made_up (λ r. r.jobs) (λ e. omega arith)

  pub no_made_up_owed : (u : Told) → Blind u → MadeUp (λ r. r.owed) u f → ⊥
  no_made_up_owed = made_up (λ r. r.owed) (λ e. omega arith)

  -- "(demand 2, counts are the machine's own)": from tick 0 on, units are the busy bytes of the trace that it leaves itself
  pub units_are_busy : (κs : _) (table : Bor (List ℕ)) (arrivals : Bor (List Arrival)) (ticks : ℕ) (trace : MutBor (List ℕ)) →
      let (r, (_, (_, (_, (_, (after, _)))))) = f κs (table, (arrivals, (0, (ticks, (trace, tt))))) in
      r.number ≡ 0 → r.run ≡ busy (take (processors_of table.now * ticks) after)
  units_are_busy κs table arrivals ticks trace z =
      let (answer, after) = meets κs (table, (arrivals, (0, (ticks, (trace, tt))))) tt in
      (λ i. (answer i).run)
      ∙ run_is_busy_trace table.now arrivals.now ticks trace.now ((λ i. (sym answer i).number) ∙ z)
      ∙ λ i. busy (take (processors_of table.now * ticks) (sym after i))

  -- and no more jobs end than have come: with those that are still there they are the arrivals
  pub jobs_have_come : (κs : _) (a : _) →
      let (table, (arrivals, (from, (ticks, _)))) = a in
      let r = (f κs a).0 in
      r.number ≡ 0 → r.jobs + still_there (rows_of table.now) (jobs_at (chart_in (table_in (reading_of table.now))) (brings arrivals.now) (from + ticks)) ≡ arrived arrivals.now (from + ticks)
  jobs_have_come κs a z =
      let (table, (arrivals, (from, (ticks, (trace, _))))) = a in
      let answer = (meets κs a tt).0 in
      rw answer (jobs_plus_open table.now arrivals.now from ticks (length trace.now) ((λ i. (sym answer i).number) ∙ z))
