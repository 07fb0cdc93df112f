-- What every answer of a run keeps: "Mark is 0 but for 11", and so is the value; "All else that a refused call returns is 0".
use Rattle.std.specs.Prelude.{Result, Ok, Err}
use Prim.Native.Nat.{ℕ, ◌+◌}
use mathlib.Core.Path.{◌≡◌, refl}
use mathlib.Core.Bool.{Bool, true, false, cond}
use mathlib.Core.List.{List}
use mathlib.Core.Logic.{◌⊎◌, inl, inr}
use lib.Dec.{ltb}
use Rattle.table.specs.declared.Table.{Table}
use Rattle.table.specs.declared.Refusal.{Refusal}
use Rattle.table.specs.Table.{number_in, table_in}
use Rattle.plan.specs.declared.Plan.{Plan}
use Rattle.plan.specs.declared.NoPlan.{NoPlan}
use Rattle.plan.specs.Trial.{number_of, names_of, mark_of, value_of}
use Rattle.plan.specs.Trial.{plan_in}
use Rattle.plan.specs.Planning.{planned_of}
use Rattle.arrivals.specs.declared.Arrival.{Arrival}
use Rattle.machine.specs.declared.Tally.{Tally}
use Rattle.machine.specs.Chart.{chart_of}
use Rattle.run.specs.Run.{Ran, refused, done, late_tick, stepped_of}
use Rattle.run.specs.Answer.{call_number, call_answer, table_answer, run_answer}

-- what both of two answers keep, the one that a test picks keeps
pub whichever : {A : Type 0} (P : A → Type 0) (b : Bool) {x y : A} → P x → P y → P (cond b x y)
whichever P true p q = p
whichever P false p q = q

-- refusal 11, or neither a mark nor a value
abbrev pub Marked : ℕ → ℕ → ℕ → Type 0
Marked number mark value = (number ≡ 11) ⊎ ((mark ≡ 0) × (value ≡ 0))

-- planning keeps that
pub outcome_marked : (o : Result Plan NoPlan) → Marked (number_of o) (mark_of o) (value_of o)
unfolding number_of mark_of value_of
outcome_marked (Ok plan) = inr (refl, refl)
outcome_marked (Err e) = inl refl

module _ (r : Result Table Refusal) (xs : List Arrival) (f w size : ℕ) where
  -- what a refusal without a mark, one by planning, and an answer without refusal keep, every answer keeps
  answers : (P : Ran → Type 0) → ((number names : ℕ) → P (refused number names 0 0)) → ((o : Result Plan NoPlan) → P (refused (number_of o) (names_of o) (mark_of o) (value_of o)))
      → ((worst : List ℕ) (tally : Tally) → P (done worst tally)) → P (run_answer r xs f w size)
  unfolding run_answer table_answer call_answer stepped_of
  answers P plain failed ran =
      let t = (table_in r) in
      let c = chart_of t (plan_in (planned_of t)) in
      whichever P (ltb 0 (number_in r)) (plain _ _)
      (whichever P (ltb 0 (number_of (planned_of t))) (failed (planned_of t))
      (whichever P (ltb 0 (call_number t xs f w size)) (plain _ _) (whichever P (ltb (late_tick c xs (f + w)) (f + w)) (plain 19 _) (ran _ _))))

  -- "Mark is 0 but for 11", and so is the value
  pub run_marked : Marked (run_answer r xs f w size).number (run_answer r xs f w size).mark (run_answer r xs f w size).value
  run_marked = answers (λ x. Marked x.number x.mark x.value) (λ number names. inr (refl, refl)) outcome_marked (λ worst tally. inr (refl, refl))

  -- a refused call returns its four numbers, and all else is 0
  pub run_refused : let x = run_answer r xs f w size in (x.number ≡ 0) ⊎ (x ≡ refused x.number x.names x.mark x.value)
  run_refused = answers (λ x. (x.number ≡ 0) ⊎ (x ≡ refused x.number x.names x.mark x.value)) (λ number names. inr refl) (λ o. inr refl) (λ worst tally. inl refl)
