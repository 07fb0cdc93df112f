-- When there is a plan, and which: "The first that succeeds is the plan."
use Prim.Native.Nat.{ℕ, suc, ◌+◌, ◌-◌, ◌≤◌, ◌<◌}
use mathlib.Core.Path.{◌≡◌, refl, sym, ◌∙◌, ap}
use mathlib.Core.Bool.{Bool, true, false}
use mathlib.Core.Logic.{◌↔◌, dite}
use native.Mathlib.Omega.{arith}
use native.Mathlib.Decide.{dec_lt}
use Rattle.lists.specs.First.{first}
use Rattle.std.specs.Prelude.{Result, Ok, Err}
use Rattle.lists.proofs.Tests.{not_both}
use Rattle.lists.proofs.First.{first_no, first_yes, first_none}
use Rattle.bounds.specs.Bound.{is_missing}
use Rattle.sections.specs.Section.{section_bound, first_missing}
use Rattle.stages.specs.Stage.{is_nowhere, place_of, first_nowhere}
use Rattle.plan.specs.declared.Tasks.{Tasks}
use Rattle.plan.specs.declared.Mark.{Mark}
use Rattle.plan.specs.declared.Plan.{Plan}
use Rattle.plan.specs.declared.NoPlan.{NoPlan}
use Rattle.plan.specs.Trial.{number_of, failed, homes, trial_of}
use Rattle.plan.specs.Planning.{is_planned, first_trial, last_trial, planning_of}
use Rattle.plan.proofs.Trials.{unbound, bounds, stuck, trial_planned, trial_whole, trials_some, planning_found, planning_none, planning_trial}

-- a trial succeeds exactly when each task has a section bound and a place
pub trial_exactly : (t : Tasks) (s : ℕ) → (is_planned (trial_of t s) ≡ true) ↔
    (((k : ℕ) → k < t.n → is_missing (section_bound t.npp t.period t.a t.top (homes t s) t.n k) ≡ false)
    × ((k : ℕ) → k < t.n → is_nowhere (place_of t.period t.c1 t.c2 t.work (bounds t s) s t.m k) ≡ false))
unfolding first_missing first_nowhere
trial_exactly t s = (
  (λ e.
      let (a, b) = trial_whole t s e in
      ((λ k l. first_no t.n missing k (omega arith)), λ k l. first_no t.n nowhere k (omega arith))),
  λ (f, g).
      let a : t.n ≤ unbound t s = omega (arith, first_none t.n missing f) in
      let b : t.n ≤ stuck t s = omega (arith, first_none t.n nowhere g) in
      ap is_planned (trial_planned t s a b),
)
  where
    missing : ℕ → Bool
    missing k = is_missing (section_bound t.npp t.period t.a t.top (homes t s) t.n k)

    nowhere : ℕ → Bool
    nowhere k = is_nowhere (place_of t.period t.c1 t.c2 t.work (bounds t s) s t.m k)

-- a trial that has no plan does not pass the test
not_planned : (o : Result Plan NoPlan) → (is_planned o ≡ true → ⊥) → is_planned o ≡ false
not_planned (Ok plan) fail = absurd (fail refl)
not_planned (Err e) fail = refl

-- an answer with number 0 is a plan,
pub number_planned : (o : Result Plan NoPlan) → number_of o ≡ 0 → is_planned o ≡ true
unfolding number_of
number_planned (Ok plan) e = refl
number_planned (Err x) e = absurd (omega arith)

-- and any other has number 11
pub number_failed : (o : Result Plan NoPlan) → (is_planned o ≡ true → ⊥) → number_of o ≡ 11
unfolding number_of
number_failed (Ok plan) fail = absurd (fail refl)
number_failed (Err e) fail = refl

-- one of the trials that the paper lists succeeds
abbrev pub Succeeds : Tasks → Type 0
Succeeds t = (s : ℕ) × (first_trial t ≤ s) × (s ≤ last_trial t) × (is_planned (trial_of t s) ≡ true)

module _ (t : Tasks) where
  -- none of the trials before s succeeds
  abbrev FailBefore : ℕ → Type 0
  FailBefore s = (q : ℕ) → first_trial t ≤ q → q < s → is_planned (trial_of t q) ≡ true → ⊥

  -- "The first that succeeds is the plan."
  pub first_plan : (s : ℕ) → first_trial t ≤ s → s ≤ last_trial t → is_planned (trial_of t s) ≡ true → FailBefore s → planning_of t ≡ trial_of t s
  first_plan s a b e fail = planning_found t s a b (λ q c l. not_planned (trial_of t q) (fail q c l)) e

  -- where one succeeds, one is the first
  first_of : (s : ℕ) → first_trial t ≤ s → s ≤ last_trial t → is_planned (trial_of t s) ≡ true → (q : ℕ) × (first_trial t ≤ q) × (q ≤ s) × (is_planned (trial_of t q) ≡ true) × FailBefore q
  first_of s a b e =
      dite (dec_lt (s - first_trial t) f)
      (λ l. absurd (fail s a (omega arith) e))
      (λ l. (first_trial t + f, omega arith, omega arith, first_yes (suc (last_trial t - first_trial t)) passes (omega arith), fail))
    where
      passes : ℕ → Bool
      passes i = is_planned (trial_of t (first_trial t + i))

      f : ℕ
      f = first (suc (last_trial t - first_trial t)) passes

      fail : FailBefore (first_trial t + f)
      fail q c l e =
          let z : first_trial t + (q - first_trial t) ≡ q = omega arith in
          not_both (ap (λ (i : ℕ). is_planned (trial_of t i)) z ∙ e) (first_no (suc (last_trial t - first_trial t)) passes (q - first_trial t) (omega arith))

  -- there is a plan exactly when one of the trials succeeds
  pub plan_exactly : 2 ≤ t.m → (is_planned (planning_of t) ≡ true) ↔ Succeeds t
  plan_exactly h = (
    (λ e.
        let (s, a, b, q) = planning_trial t h in
        (s, a, b, ap is_planned (sym q) ∙ e)),
    λ (s, a, b, e).
        let (q, c, d, f, fail) = first_of s a b e in
        ap is_planned (first_plan q c (omega arith) f fail) ∙ f,
  )

  -- there is none exactly when every trial fails, and then the row, the mark and the value are those of the last
  pub none_exactly : 2 ≤ t.m → (row : ℕ) (mark : Mark) (value : ℕ) → (planning_of t ≡ failed row mark value) ↔
      (((s : ℕ) → first_trial t ≤ s → s ≤ last_trial t → is_planned (trial_of t s) ≡ true → ⊥) × (trial_of t (last_trial t) ≡ failed row mark value))
  none_exactly h row mark value = (
    (λ e.
        let fail : (s : ℕ) → first_trial t ≤ s → s ≤ last_trial t → is_planned (trial_of t s) ≡ true → ⊥ = λ s a b f.
        not_both ((plan_exactly h).1 (s, a, b, f)) (ap is_planned e) in
        (fail, sym (last fail) ∙ e)),
    λ (fail, e). last fail ∙ e,
  )
    where
      last : ((s : ℕ) → first_trial t ≤ s → s ≤ last_trial t → is_planned (trial_of t s) ≡ true → ⊥) → planning_of t ≡ trial_of t (last_trial t)
      last fail = planning_none t (trials_some t h) (λ q a l. not_planned (trial_of t q) (fail q a (omega arith)))
