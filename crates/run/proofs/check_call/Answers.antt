-- `run::check_call` meets its contract: the refusals 12 to 18 in their order.
use Prim.Native.Nat.{ℕ, ◌≤◌, ◌<◌}
use mathlib.Core.Path.{◌≡◌, refl, sym, ◌∙◌, ap, subst}
use mathlib.Core.List.{List}
use native.Mathlib.Omega.{arith}
use native.Mathlib.Nat.{mul-le-mul_left, mul-le-mul_right}
use denote.Bor.{Bor}
use borrow.Author.Tests.{leb-false}
use lib.ListN.{length}
use Rattle.std.specs.Prelude.{Option, Some, IfSome, ok_or}
use Rattle.std.proofs.lemmas.Result.{err_from_is_err_and}
use Rattle.arrivals.specs.declared.flat.Flat.{Flat}
use Rattle.arrivals.specs.Arrival.{listed, arrivals_of}
use Rattle.arrivals.specs.Check.{number_heard}
use Rattle.arrivals.proofs.Numbers.{length_arrivals}
use Rattle.arrivals.proofs.Fine.{fault_some}
use Rattle.run.specs.declared.Refusal.TheVariants.{Arrivals}
use Rattle.run.specs.Refused.{refusal_answer}
use Rattle.run.proofs.Calls.{bad_window_lem, too_short, too_many, as_heard, window_small}
use Rattle.run.proofs.check_call.Goals as goal

-- the arrivals that are taken are those that are lent, and at most 4,096
taken : (numbers : Bor (List ℕ)) (count : ℕ) (o : Option Flat) (xs : Flat) → o ≡ Some xs → IfSome o (λ x. (x.numbers ≡ numbers) × (x.count ≡ count))
    → (listed xs ≡ arrivals_of numbers.now count) × (length (arrivals_of numbers.now count) ≤ 4096)
taken numbers count o xs e h =
    let w = subst (λ (p : Option Flat). IfSome p (λ x. (x.numbers ≡ numbers) × (x.count ≡ count))) e h in
    (λ i. arrivals_of (w.0 i).now (w.1 i), omega (arith, w.1, xs.few, length_arrivals numbers.now count))

pub returns-then-bad_window-clause-err : goal.returns-then-bad_window-clause-err
unfolding refusal_answer
returns-then-bad_window-clause-err c =
    let a = c.args in
    let q = bad_window_lem a.t.now (arrivals_of a.numbers.now a.count) a.from a.ticks a.size (sym c.bad_window.ensures ∙ c.if-bad_window.true) in
    rw (sym q.0, sym q.1) (refl, omega arith)

pub overflow_mul-t : goal.overflow_mul-t
overflow_mul-t c =
    let a = c.args in
    let w = window_small a.from a.ticks (sym c.bad_window.ensures ∙ c.if-bad_window.false) in
    omega (arith, mul-le-mul_left a.t.now.m w.0, mul-le-mul_right 4096 c.requires.processors.1)

pub returns-then-size-t-clause-err : goal.returns-then-size-t-clause-err
unfolding refusal_answer
returns-then-size-t-clause-err c =
    let a = c.args in
    let q = too_short a.t.now (arrivals_of a.numbers.now a.count) a.from a.ticks a.size (sym c.bad_window.ensures ∙ c.if-bad_window.false) c.if-size-t.true in
    rw (sym q.0, sym q.1) (refl, omega arith)

pub returns-in_err-xs-clause-err : goal.returns-in_err-xs-clause-err
unfolding refusal_answer
returns-in_err-xs-clause-err c =
    let a = c.args in
    let e = c.in_err-xs.ensures in
    let l : 4096 < a.count = leb-false a.count 4096 (sym c.new.ensures.0 ∙ sym e.variant) in
    let q = too_many a.t.now (arrivals_of a.numbers.now a.count) a.from a.ticks a.size (sym c.bad_window.ensures ∙ c.if-bad_window.false) c.if-size-t.false (omega (arith, length_arrivals a.numbers.now a.count)) in
    let p = err_from_is_err_and c.from_residual.result c.from_residual.ensures.1 in
    let v = e.value ∙ ap (λ (o : Option Flat). ok_or o Arrivals) e.ok_part in
    let f : c.in_err-xs.field-0.0 ≡ Arrivals = cc in
    rw (p.1, p.2, f, sym q.0, sym q.1) (refl, omega arith)

pub returns-in_err-check_arrivals-clause-err : goal.returns-in_err-check_arrivals-clause-err
unfolding refusal_answer
returns-in_err-check_arrivals-clause-err c =
    let a = c.args in
    let w = taken a.numbers a.count c.new.result c.in_ok-xs.xs c.in_ok-xs.ensures.ok_part c.new.ensures.1 in
    let h = as_heard a.t.now (arrivals_of a.numbers.now a.count) a.from a.ticks a.size (sym c.bad_window.ensures ∙ c.if-bad_window.false) c.if-size-t.false w.1 in
    let p = err_from_is_err_and c.from_residual-in_err-check_arrivals.result c.from_residual-in_err-check_arrivals.ensures.1 in
    let e = c.in_err-check_arrivals.ensures in
    rw (p.1, p.2, sym h.0, sym h.1, sym w.0, sym e) (refl, fault_some c.in_err-check_arrivals.field-0.0.fault)

pub returns-clause-ok : goal.returns-clause-ok
returns-clause-ok c =
    let a = c.args in
    let w = taken a.numbers a.count c.new.result c.in_ok-xs.xs c.in_ok-xs.ensures.ok_part c.new.ensures.1 in
    let h = as_heard a.t.now (arrivals_of a.numbers.now a.count) a.from a.ticks a.size (sym c.bad_window.ensures ∙ c.if-bad_window.false) c.if-size-t.false w.1 in
    (w.0, sym h.0 ∙ rw (sym w.0) (ap number_heard (sym c.in_ok-check_arrivals.ensures)))
