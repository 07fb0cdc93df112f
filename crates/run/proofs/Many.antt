-- A call with more than 4,096 arrivals is refused whatever they are, so at most 4,096 of a lent list have to be taken apart.
use Rattle.std.specs.Prelude.{Result}
use Prim.Native.Nat.{ℕ, ◌*◌, ◌<◌, min}
use mathlib.Core.Path.{◌≡◌, refl, ◌∙◌, ap, subst}
use mathlib.Core.Bool.{Bool, true, false, cond, or-true}
use mathlib.Core.List.{List}
use mathlib.Core.Logic.{dite}
use native.Mathlib.Omega.{arith}
use native.Mathlib.Decide.{dec_lt}
use borrow.Author.Tests.{lt-ltb}
use lib.ListN.{length}
use lib.Dec.{ltb}
use Rattle.table.specs.declared.Table.{Table}
use Rattle.table.specs.declared.Refusal.{Refusal}
use Rattle.table.specs.Table.{number_in, table_in}
use Rattle.plan.specs.Trial.{number_of}
use Rattle.plan.specs.Planning.{planned_of}
use Rattle.arrivals.specs.declared.Arrival.{Arrival}
use Rattle.arrivals.specs.Arrival.{arrivals_of, flat_of}
use Rattle.arrivals.proofs.Numbers.{length_arrivals}
use Rattle.arrivals.proofs.Apart.{flat_back}
use Rattle.run.specs.Run.{Ran}
use Rattle.run.specs.Answer.{bad_window, call_number, call_names, call_answer, table_answer, run_answer, trace_after}
use Rattle.run.proofs.Calls.{Leaves}

module _ (xs ys : List Arrival) (k : 4096 < length xs) (l : 4096 < length ys) (f w : ℕ) where
  -- the call is refused, and both lists are refused the same way
  same_call : (t : Table) (size : ℕ)
      → (call_number t xs f w size ≡ call_number t ys f w size) × (call_names t xs f w size ≡ call_names t ys f w size) × (ltb 0 (call_number t ys f w size) ≡ true)
  unfolding call_number call_names
  same_call t size = rw (lt-ltb 4096 (length xs) k, lt-ltb 4096 (length ys) l) (refl, refl, above (bad_window f w) (ltb size (t.m * w)))
    where
      above : (a b : Bool) → ltb 0 (cond a 12 (cond b 13 14)) ≡ true
      above true b = refl
      above false true = refl
      above false false = refl

  -- so the answer is the same,
  same_answer : (r : Result Table Refusal) (size : ℕ) → run_answer r xs f w size ≡ run_answer r ys f w size
  unfolding run_answer table_answer call_answer
  same_answer r size = let e = same_call (table_in r) size in rw (e.0, e.1, e.2)

  -- and the trace is left as it was
  same_trace : (r : Result Table Refusal) (trace : List ℕ) → trace_after r xs f w trace ≡ trace_after r ys f w trace
  unfolding trace_after
  same_trace r trace = let e = same_call (table_in r) (length trace) in rw (e.0, e.2, or-true (ltb 0 (number_of (planned_of (table_in r)))), or-true (ltb 0 (number_in r)))

-- what a call does with a list that was taken apart, it does with the list
pub from_flat : (r : Result Table Refusal) (xs : List Arrival) (f w : ℕ) (trace : List ℕ) (ran : Ran) (after out flat : List ℕ) → length out ≡ 20480 → flat ≡ flat_of xs (min (length xs) 4096) out
    → Leaves r (arrivals_of flat (length xs)) f w trace ran after → Leaves r xs f w trace ran after
from_flat r xs f w trace ran after out flat all e s =
    dite (dec_lt 4096 (length xs))
    (λ l.
    let k : 4096 < length had = omega (arith, length_arrivals flat (length xs)) in
    (s.0 ∙ same_answer had xs k l f w r (length trace), s.1 ∙ same_trace had xs k l f w r trace))
    (λ l.
    let whole : min (length xs) 4096 ≡ length xs = omega arith in
    let back : had ≡ xs = ap (λ (u : List ℕ). arrivals_of u (length xs)) (e ∙ ap (λ (k : ℕ). flat_of xs k out) whole) ∙ flat_back xs out (omega arith) all in
    subst (λ (ys : List Arrival). Leaves r ys f w trace ran after) back s)
  where
    had : List Arrival
    had = arrivals_of flat (length xs)
