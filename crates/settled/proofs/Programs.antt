-- A program of each wrong kind of Attacked, so that none of these is empty, and one that meets each contract, so that the contracts are not.
use Prim.Native.Nat.{ℕ, ◌+◌, ◌-◌, ◌≤◌}
use mathlib.Core.Path.{◌≡◌, refl, ◌∙◌, ap}
use mathlib.Core.List.{List, ◌++◌}
use native.Mathlib.Omega.{arith}
use lib.ListN.{length, get_or, take, length-take}
use lib.Seq.{get_or-append-add}
use Rattle.lists.specs.Tab.{blank}
use Rattle.lists.proofs.Tab.{get_or-blank}
use Rattle.table.specs.Table.{reading_of}
use Rattle.run.specs.Answer.{run_answer, trace_after}
use Rattle.kieferntuch.specs.Answer.{answer, plan_answer}
use Rattle.kieferntuch.specs.Sheet.{written_at, sheet_after}
use Rattle.settled.proofs.Attacked.{Planner, Plans, Runner, Runs, rows_of, processors_of, RefusesAll, FixedPlan, WritesNothing, FirstTickOnly, Told, Blind, MadeUp}

-- they do what the definitions say
abbrev right_planner : Planner
right_planner κs (table, (at, (sheet, _))) =
    (plan_answer (reading_of table.now) at (length sheet.now), (tt, (tt, (sheet_after (reading_of table.now) at sheet.now, tt))))

right_plans : Plans right_planner
right_plans κs a asked = (refl, refl)

abbrev right_runner : Runner
right_runner κs (table, (arrivals, (from, (ticks, (trace, _))))) = (
  run_answer (reading_of table.now) arrivals.now from ticks (length trace.now),
  (tt, (tt, (tt, (tt, (trace_after (reading_of table.now) arrivals.now from ticks trace.now, tt))))),
)

right_runs : Runs right_runner
right_runs κs a asked = (refl, refl)

-- it answers 1 to every call
refuser : Planner
refuser κs (table, (at, (sheet, _))) = (answer 1 0 0 0, (tt, (tt, (sheet.now, tt))))

refuses : RefusesAll refuser
unfolding refuser
refuses κs a = omega arith

-- the right answer, and always the same plan
module _ (fixed : ℕ → ℕ → List ℕ) where
  same_again : Planner
  same_again κs a =
      let (table, (at, (sheet, _))) = a in
      ((right_planner κs a).0, (tt, (tt, (written_at sheet.now at (fixed (rows_of table.now) (processors_of table.now)), tt))))

  is_fixed : FixedPlan fixed same_again
  unfolding same_again
  is_fixed κs a z = refl

-- the right answer, and the trace as it was
silent : Runner
silent κs a =
    let (_, (_, (_, (_, (trace, _))))) = a in
    ((right_runner κs a).0, (tt, (tt, (tt, (tt, (trace.now, tt))))))

is_silent : WritesNothing silent
unfolding silent
is_silent κs a z = refl

-- the right answer, the right bytes of the first tick, and zeros
first_tick : Runner
first_tick κs a =
    let (table, (_, (_, (_, (trace, _))))) = a in
    let (r, (_, (_, (_, (_, (after, _)))))) = right_runner κs a in
    (r, (tt, (tt, (tt, (tt, (take (processors_of table.now) after ++ blank (length trace.now - processors_of table.now) 0, tt))))))

-- behind the first m bytes, or those that there are, nothing but zeros
rest_idle : (m k size : ℕ) (bytes : List ℕ) → m ≤ k → get_or (take m bytes ++ blank size 0) k 0 ≡ 0
rest_idle m k size bytes h =
    let first = take m bytes in
    let e : k ≡ length first + (k - length first) = omega (arith, length-take m bytes) in
    ap (λ (j : ℕ). get_or (first ++ blank size 0) j 0) e
    ∙ get_or-append-add first (blank size 0) (k - length first) 0
    ∙ get_or-blank size 0 (k - length first)

is_first_tick : FirstTickOnly first_tick
unfolding first_tick
is_first_tick κs a size e z k behind within = rest_idle _ k _ _ behind

-- right but for the counts, which are u of the call
module _ (u : Told) where
  guesser : Runner
  guesser κs a =
      let (table, (arrivals, (from, (ticks, (trace, _))))) = a in
      let (r, after) = right_runner κs a in
      let x = u table.now arrivals.now from ticks trace.now in
      (record { number = r.number; names = r.names; mark = r.mark; value = r.value; worst = r.worst; jobs = x; run = x; owed = x }, after)

  guesses : MadeUp (λ r. r.run) u guesser × MadeUp (λ r. r.jobs) u guesser × MadeUp (λ r. r.owed) u guesser
  unfolding guesser
  guesses = ((λ κs a z. refl), (λ κs a z. refl), λ κs a z. refl)

-- a number alone is blind
number_blind : (c : ℕ) → Blind (λ table xs from ticks trace. c)
number_blind c table xs from v w trace x y = refl
