-- The four ways in which a call of planning ends.
use Prim.Native.Nat.{ℕ, ◌+◌, ◌-◌, ◌*◌, ◌≤◌, ◌<◌}
use Rattle.std.specs.Prelude.{Some, None, Result, Ok, Err}
use mathlib.Core.Path.{◌≡◌, refl, sym, ◌∙◌, ap}
use mathlib.Core.List.{List, [], ◌++◌, append_assoc, append-nil}
use mathlib.Core.Bool.{not}
use mathlib.Core.Logic.{dite}
use native.Mathlib.Omega.{arith}
use native.Mathlib.Decide.{dec_lt}
use borrow.Author.Tests.{lt-ltb, le-ltb, le-leb, lt-leb}
use lib.ListN.{length, take, drop, length-drop}
use lib.Seq.{sets, sets-eq, drop-length}
use lib.Dec.{ltb, leb}
use Rattle.lists.proofs.Tests.{clash}
use Rattle.lists.proofs.Sets.{take_rest, sets-part}
use Rattle.table.specs.declared.Table.{Table}
use Rattle.table.specs.declared.Refusal.{Refusal}
use Rattle.table.specs.Table.{refusal_of, reading_of}
use Rattle.table.specs.Good.{GoodTable}
use Rattle.table.proofs.Good.{table_good}
use Rattle.table.proofs.Laws.{number_some}
use Rattle.plan.specs.declared.Plan.{Plan}
use Rattle.plan.specs.declared.NoPlan.{NoPlan}
use Rattle.plan.specs.Trial.{number_of, names_of, mark_of, value_of}
use Rattle.plan.specs.Planning.{planned_of}
use Rattle.kieferntuch.specs.declared.Answer.{Answer}
use Rattle.kieferntuch.specs.Answer.{answer, answer_of, outcome_answer, plan_answer}
use Rattle.kieferntuch.specs.Sheet.{written_at, bytes_of, sheet_after}

-- bytes written at the start of the part from `at` on
pub written : (l : List ℕ) (at : ℕ) (part bytes : List ℕ) → at + length bytes ≤ length l → part ≡ sets (take (length l - at) (drop at l)) 0 bytes →
    take at l ++ (part ++ drop (length l - at) (drop at l)) ≡ written_at l at bytes
written l at part bytes h e =
    let none : drop (length l - at) (drop at l) ≡ [] = ap (λ (k : ℕ). drop k (drop at l)) (sym (length-drop at l)) ∙ drop-length (drop at l) in
    rw (e, none, append-nil, take_rest l at (length l) refl) (sets-part l at bytes h ∙ sets-eq bytes l at h ∙ append_assoc (take at l) bytes (drop (at + length bytes) l))

-- what is left behind `at` is enough exactly when the whole is
pub room_test : (size at need : ℕ) → at ≤ size → leb need (size - at) ≡ not (ltb size (at + need))
room_test size at need h =
    dite (dec_lt size (at + need))
    (λ l. rw (lt-leb need (size - at) (omega arith), lt-ltb size (at + need) l))
    (λ l. rw (le-leb need (size - at) (omega arith), le-ltb size (at + need) (omega arith)))

-- a table that is read is good
pub read_good : (bs : List ℕ) (t : Table) → Ok t ≡ reading_of bs → GoodTable t
read_good bs t e = table_good bs (Ok t) e refl

-- four zeros are the answer of no refusal
pub no_refusal : (a : Answer) → (a.number ≡ 0) × ((a.names ≡ 0) × ((a.mark ≡ 0) × (a.value ≡ 0))) → a ≡ answer 0 0 0 0
no_refusal a (number, (names, (mark, value))) = λ i. record { number = number i; names = names i; mark = mark i; value = value i }

-- what reading answers, by the refusal alone
pub read_refused : (r : Result Table Refusal) (e : Refusal) → Some e ≡ refusal_of r → answer_of (Err e) ≡ answer_of r
read_refused (Ok t) e h = clash cc
read_refused (Err x) e h =
    let q : e ≡ x = cc in
    ap (λ (y : Refusal). answer_of (Err y)) q

pub read_accepted : (r : Result Table Refusal) → None ≡ refusal_of r → answer 0 0 0 0 ≡ answer_of r
read_accepted (Ok t) h = refl
read_accepted (Err x) h = clash cc

-- an answer, and the sheet with it
abbrev Ended : Result Table Refusal → ℕ → List ℕ → Answer → List ℕ → Type 0
Ended r at sheet a after = (a ≡ plan_answer r at (length sheet)) × (after ≡ sheet_after r at sheet)

module _ (at : ℕ) (sheet : List ℕ) where
  -- a refusal leaves the sheet as it is
  kept : (r : Result Table Refusal) (a : Answer) → 0 < a.number → a ≡ plan_answer r at (length sheet) → Ended r at sheet a sheet
  unfolding sheet_after
  kept r a h e = (e, rw (sym e, lt-ltb 0 a.number h))

  -- 1 to 9
  pub refused : (e : Refusal) → Ended (Err e) at sheet (answer_of (Err e)) sheet
  unfolding plan_answer
  refused e = kept (Err e) (answer_of (Err e)) (number_some e) refl

  module _ (t : Table) where
    -- 10
    pub too_short : length sheet < at + (12 + 9 * t.n) → Ended (Ok t) at sheet (answer 10 0 0 0) sheet
    unfolding plan_answer
    too_short h = kept (Ok t) (answer 10 0 0 0) (omega arith) (rw (lt-ltb (length sheet) (at + (12 + 9 * t.n)) h))

    module _ (room : at + (12 + 9 * t.n) ≤ length sheet) where
      -- 11
      pub no_plan_lem : (e : NoPlan) → Err e ≡ planned_of t → Ended (Ok t) at sheet (outcome_answer (Err e)) sheet
      unfolding plan_answer number_of
      no_plan_lem e is = kept (Ok t) (outcome_answer (Err e)) (omega arith) (rw (le-ltb (length sheet) (at + (12 + 9 * t.n)) room, sym is))

      -- and the plan is written
      pub has_plan : (p : Plan) (after : List ℕ) → Ok p ≡ planned_of t → after ≡ written_at sheet at (bytes_of t p) → Ended (Ok t) at sheet (answer 0 0 0 0) after
      unfolding plan_answer sheet_after number_of names_of mark_of value_of
      has_plan p after is w =
          let a : answer 0 0 0 0 ≡ plan_answer (Ok t) at (length sheet) = rw (le-ltb (length sheet) (at + (12 + 9 * t.n)) room, sym is) in
          (a, w ∙ rw (sym a, sym is))
