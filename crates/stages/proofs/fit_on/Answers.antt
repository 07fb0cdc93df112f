-- `stages::fit_on` meets its contract. Each return is one case of a fit.
use Prim.Native.Nat.{◌+◌, ◌-◌}
use mathlib.Core.Path.{sym, ◌∙◌}
use native.Mathlib.Omega.{arith}
use borrow.Author.Tests.{lt-ltb, le-ltb}
use lib.ListN.{get_or}
use Rattle.std.proofs.lemmas.Result.{err_from_is_err_and}
use Rattle.bounds.specs.Terms.{lane}
use Rattle.bounds.proofs.Search.{bound_le}
use Rattle.stages.proofs.Fitting.{fit_first, fit_second, fit_both}
use Rattle.stages.proofs.fit_on.Goals as goal

pub returns-in_err-d1 : goal.returns-in_err-d1
returns-in_err-d1 c =
    let a = c.args in
    let terms = lane a.lanes.now.terms a.p (get_or a.lanes.now.count a.p 0) in
    let p = err_from_is_err_and c.from_residual.result c.from_residual.ensures.1 in
    rw (p.1, p.2) (sym (fit_first terms a.need.c1 a.need.c2 a.need.section a.need.period c.in_err-d1.field-0.0.value (sym c.in_err-d1.ensures)))

pub returns-in_err-d2 : goal.returns-in_err-d2
returns-in_err-d2 c =
    let a = c.args in
    let terms = lane a.lanes.now.terms a.p (get_or a.lanes.now.count a.p 0) in
    let p = err_from_is_err_and c.from_residual-in_err-d2.result c.from_residual-in_err-d2.ensures.1 in
    rw (p.1, p.2) (sym (fit_second terms a.need.c1 a.need.c2 a.need.section a.need.period c.in_ok-d1.d1 c.in_err-d2.field-0.0.value (sym c.in_ok-d1.ensures) (sym c.in_err-d2.ensures)))

pub overflow_add-sum : goal.overflow_add-sum
overflow_add-sum c =
    let a = c.args in
    let terms = lane a.lanes.now.terms a.p (get_or a.lanes.now.count a.p 0) in
    omega (arith, bound_le terms 0 (a.need.period - a.need.section) c.in_ok-d1.d1 a.need.c1 (sym c.in_ok-d1.ensures))

pub overflow_add-sum-2 : goal.overflow_add-sum-2
overflow_add-sum-2 c =
    let a = c.args in
    let terms = lane a.lanes.now.terms a.p (get_or a.lanes.now.count a.p 0) in
    omega (arith, bound_le terms 0 (a.need.period - a.need.section) c.in_ok-d1.d1 a.need.c1 (sym c.in_ok-d1.ensures), bound_le terms 0 (a.need.period - a.need.section) c.in_ok-d2.d2 a.need.c2 (sym c.in_ok-d2.ensures))

pub returns-then-sum-need : goal.returns-then-sum-need
returns-then-sum-need c =
    let a = c.args in
    let terms = lane a.lanes.now.terms a.p (get_or a.lanes.now.count a.p 0) in
    sym (fit_both terms a.need.c1 a.need.c2 a.need.section a.need.period c.in_ok-d1.d1 c.in_ok-d2.d2 (sym c.in_ok-d1.ensures) (sym c.in_ok-d2.ensures) ∙ rw (lt-ltb a.need.period (c.in_ok-d1.d1 + a.need.section + c.in_ok-d2.d2) c.if-sum-need.true))

pub returns : goal.returns
returns c =
    let a = c.args in
    let terms = lane a.lanes.now.terms a.p (get_or a.lanes.now.count a.p 0) in
    sym (fit_both terms a.need.c1 a.need.c2 a.need.section a.need.period c.in_ok-d1.d1 c.in_ok-d2.d2 (sym c.in_ok-d1.ensures) (sym c.in_ok-d2.ensures) ∙ rw (le-ltb a.need.period (c.in_ok-d1.d1 + a.need.section + c.in_ok-d2.d2) c.if-sum-need.false))
