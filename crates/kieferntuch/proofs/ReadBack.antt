-- Where planning answers 0, the bytes from `at` on, read by the definitions of the fields, are the plan's numbers.
use Prim.Native.Nat.{ℕ, ◌+◌, ◌*◌, ◌≤◌}
use mathlib.Core.Path.{◌≡◌, refl, ◌∙◌, ap}
use mathlib.Core.List.{List, ◌++◌}
use mathlib.Core.Bool.{false}
use native.Mathlib.Omega.{arith}
use borrow.Author.Tests.{le-ltb}
use lib.ListN.{length, take, drop}
use lib.Seq.{drop_at, take_at, length-take-le}
use lib.Dec.{ltb}
use Rattle.table.specs.Table.{table_in, reading_of}
use Rattle.table.proofs.Good.{table_good}
use Rattle.plan.specs.Trial.{plan_in}
use Rattle.plan.specs.Planning.{planned_of}
use Rattle.plan.proofs.Covers.{plan_fits}
use Rattle.sheet.proofs.ReadBack.{PlanRead, plan_size, read_back}
use Rattle.kieferntuch.proofs.Exactly.{planned}
use Rattle.kieferntuch.specs.Answer.{plan_answer}
use Rattle.kieferntuch.specs.Sheet.{written_at, bytes_of, sheet_after}

-- bytes that are written are there
there : (sheet : List ℕ) (at : ℕ) (bytes : List ℕ) (n : ℕ) → length bytes ≡ n → at ≤ length sheet → take n (drop at (written_at sheet at bytes)) ≡ bytes
there sheet at bytes n e l =
    ap (λ (x : List ℕ). take n x) (drop_at (take at sheet) (bytes ++ drop (at + length bytes) sheet) at (length-take-le at sheet l))
    ∙ take_at bytes (drop (at + length bytes) sheet) n e

-- so they say the plan
pub sheet_read_back : (bs : List ℕ) (at : ℕ) (sheet : List ℕ) → (plan_answer (reading_of bs) at (length sheet)).number ≡ 0 →
    let t = table_in (reading_of bs) in
    let p = plan_in (planned_of t) in
    PlanRead (take (12 + 9 * t.n) (drop at (sheet_after (reading_of bs) at sheet))) t.n t.m p.s p.serves p.processor p.d1 p.section p.d2
unfolding sheet_after
sheet_read_back bs at sheet e =
    let r = reading_of bs in
    let t = table_in r in
    let p = plan_in (planned_of t) in
    let ((number, room), found) = planned bs at (length sheet) e in
    let g = table_good bs r refl number in
    let f = plan_fits t g found in
    let w : ltb 0 (plan_answer r at (length sheet)).number ≡ false = le-ltb 0 (plan_answer r at (length sheet)).number (omega arith) in
    rw (w, there sheet at (bytes_of t p) (12 + 9 * t.n) (plan_size t.n t.m p.s p.serves p.processor p.d1 p.section p.d2) (omega arith))
    (read_back t.n t.m p.s p.serves p.processor p.d1 p.section p.d2 (omega (arith, g.rows.1)) (omega (arith, g.processors.1)) f.count f.serves f.rows)
