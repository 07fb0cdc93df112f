-- When planning answers what: 0 exactly when one of the trials that the paper lists succeeds, 11 exactly when each of them fails; that only 11
-- has a mark and a value, and that the value fits 32 bits.
use Prim.Native.Nat.{ℕ, ◌+◌, ◌*◌, ◌≤◌, ◌<◌}
use Rattle.std.specs.Prelude.{Result, Ok, Err}
use mathlib.Core.Path.{◌≡◌, refl, sym, ◌∙◌, ap}
use mathlib.Core.List.{List}
use mathlib.Core.Bool.{Bool, true, false, cond}
use mathlib.Core.Logic.{◌⊎◌, inl, inr, ⊎_elim, ◌↔◌}
use native.Mathlib.Omega.{arith}
use borrow.Author.Tests.{le-ltb, ltb-false}
use Rattle.lists.proofs.Tests.{clash}
use Rattle.table.specs.declared.Table.{Table}
use Rattle.table.specs.declared.Refusal.{Refusal}
use Rattle.table.specs.Table.{number_in, table_in, reading_of}
use Rattle.table.proofs.Good.{table_good, number_le}
use Rattle.table.proofs.Laws.{number_some, number_none}
use Rattle.plan.specs.declared.Plan.{Plan}
use Rattle.plan.specs.declared.NoPlan.{NoPlan}
use Rattle.plan.specs.Tasks.{weighed, tasks_of}
use Rattle.plan.specs.Trial.{number_of}
use Rattle.plan.specs.Planning.{is_planned, planned_of}
use Rattle.plan.proofs.Broke.{value_fits}
use Rattle.plan.proofs.Exactly.{number_planned, number_failed, Succeeds, plan_exactly}
use Rattle.run.proofs.Refusals.{Marked, whichever, outcome_marked}
use Rattle.kieferntuch.specs.declared.Answer.{Answer}
use Rattle.kieferntuch.specs.Answer.{answer, short, outcome_answer, plan_answer}

-- the bytes are a good table, and the sheet has room for its plan
abbrev pub Ready : List ℕ → ℕ → ℕ → Type 0
Ready bs at size = (number_in (reading_of bs) ≡ 0) × (at + (12 + 9 * (table_in (reading_of bs)).n) ≤ size)

-- a plan has number 0
planned-zero : (o : Result Plan NoPlan) → is_planned o ≡ true → number_of o ≡ 0
unfolding number_of
planned-zero (Ok p) e = refl
planned-zero (Err x) e = clash cc

module _ (bs : List ℕ) (at size : ℕ) where
  -- what comes of planning the table
  abbrev out : Result Plan NoPlan
  out = planned_of (table_in (reading_of bs))

  -- a good table that has room is answered by its outcome
  ready : Ready bs at size → (plan_answer (reading_of bs) at size).number ≡ number_of out
  unfolding plan_answer
  ready (good, room) =
      let a : plan_answer (reading_of bs) at size ≡ plan_answer (Ok (table_in (reading_of bs))) at size = ap (λ (r : Result Table Refusal). plan_answer r at size) (number_none (reading_of bs) good) in
      ap (λ (x : Answer). x.number) a ∙ rw (le-ltb size (at + (12 + 9 * (table_in (reading_of bs)).n)) room)

  -- any other call is refused by 1 to 10
  ready_by : (number : ℕ) → (plan_answer (reading_of bs) at size).number ≡ number → (number ≡ 0) ⊎ (number ≡ 11) → Ready bs at size
  unfolding plan_answer
  ready_by number e h = go (reading_of bs) (number_le bs) e
    where
      fits : (t : Table) (b : Bool) → short size at t.n ≡ b → (cond b (answer 10 0 0 0) (outcome_answer (planned_of t))).number ≡ number → at + (12 + 9 * t.n) ≤ size
      fits t true y e = absurd (⊎_elim (λ z. omega arith) (λ z. omega arith) h)
      fits t false y e = ltb-false size (at + (12 + 9 * t.n)) y

      go : (r : Result Table Refusal) → number_in r ≤ 9 → (plan_answer r at size).number ≡ number → (number_in r ≡ 0) × (at + (12 + 9 * (table_in r).n) ≤ size)
      go (Err x) l e = absurd (⊎_elim (λ z. omega (arith, number_some x)) (λ z. omega arith) h)
      go (Ok t) l e = (refl, fits t (short size at t.n) refl e)

  -- what is answered with 0: a good table, room on the sheet, and a plan
  pub planned : (plan_answer (reading_of bs) at size).number ≡ 0 → Ready bs at size × (is_planned out ≡ true)
  planned e =
      let r = ready_by 0 e (inl refl) in
      (r, number_planned out (sym (ready r) ∙ e))

  -- of a good table, a plan is found exactly when a trial succeeds
  succeeds : number_in (reading_of bs) ≡ 0 → (is_planned out ≡ true) ↔ Succeeds (tasks_of (table_in (reading_of bs)))
  unfolding planned_of tasks_of weighed
  succeeds good = plan_exactly (tasks_of (table_in (reading_of bs))) (table_good bs (reading_of bs) refl good).processors.0

  -- the plan is written exactly when a listed trial succeeds
  pub written_exactly : ((plan_answer (reading_of bs) at size).number ≡ 0) ↔ (Ready bs at size × Succeeds (tasks_of (table_in (reading_of bs))))
  written_exactly = (
    (λ e.
        let (r, p) = planned e in
        (r, (succeeds r.0).0 p)),
    λ (r, s). ready r ∙ planned-zero out ((succeeds r.0).1 s),
  )

  -- "every trial failed": refusal 11 exactly when none succeeds
  pub eleven_exactly : ((plan_answer (reading_of bs) at size).number ≡ 11) ↔ (Ready bs at size × (Succeeds (tasks_of (table_in (reading_of bs))) → ⊥))
  eleven_exactly = (
    (λ e.
        let r = ready_by 11 e (inr refl) in
        (r, λ s. omega (arith, planned-zero out ((succeeds r.0).1 s), ready r))),
    λ (r, none). ready r ∙ number_failed out (λ p. none ((succeeds r.0).0 p)),
  )

  -- "Mark is 0 but for 11", and so is the value
  pub plan_marked : Marked (plan_answer (reading_of bs) at size).number (plan_answer (reading_of bs) at size).mark (plan_answer (reading_of bs) at size).value
  unfolding plan_answer
  plan_marked = go (reading_of bs)
    where
      kept : Answer → Type 0
      kept x = Marked x.number x.mark x.value

      go : (r : Result Table Refusal) → kept (plan_answer r at size)
      go (Err e) = inr (refl, refl)
      go (Ok t) = whichever kept (short size at t.n) (inr (refl, refl)) (outcome_marked (planned_of t))

  -- "It fits 32 bits for every table": of any bytes
  pub value_32 : (plan_answer (reading_of bs) at size).value < 4294967296
  unfolding plan_answer
  value_32 = go (reading_of bs) refl
    where
      go : (r : Result Table Refusal) → r ≡ reading_of bs → (plan_answer r at size).value < 4294967296
      go (Err e) q = omega arith
      go (Ok t) q = whichever (λ (x : Answer). x.value < 4294967296) (short size at t.n) (omega arith) (value_fits t (table_good bs (Ok t) q refl))
