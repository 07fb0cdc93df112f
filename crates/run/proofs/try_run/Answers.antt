-- `run::try_run` meets its contract: the refusals 1 to 18 in their order, then the ticks.
use mathlib.Core.Path.{◌≡◌, refl, sym, ◌∙◌, ap}
use mathlib.Core.List.{List}
use lib.ListN.{length}
use Rattle.std.specs.Prelude.{Ok, Err}
use Rattle.std.proofs.lemmas.Result.{err_from_is_err_and}
use Rattle.table.proofs.Good.{table_good}
use Rattle.table.proofs.Laws.{number_some}
use Rattle.plan.specs.Planning.{is_planned, planned_of}
use Rattle.plan.specs.Trial.{plan_in}
use Rattle.arrivals.specs.Arrival.{arrivals_of}
use Rattle.arrivals.specs.declared.Arrival.{Arrival}
use Rattle.machine.specs.declared.Chart.{Chart}
use Rattle.machine.specs.Chart.{chart_of}
use Rattle.run.specs.Run.{stepped_of, shown_of}
use Rattle.run.specs.Refused.{refusal_answer}
use Rattle.run.proofs.Charted.{good_chart, coming}
use Rattle.run.proofs.Calls.{bad_table, no_plan_lem, bad_call, runs, allowed}
use Rattle.run.proofs.try_run.Goals as goal

pub returns-in_err-t : goal.returns-in_err-t
unfolding refusal_answer
returns-in_err-t c =
    let a = c.args in
    let p = err_from_is_err_and c.from_residual.result c.from_residual.ensures.1 in
    let e = c.in_err-t.field-0.0 in
    rw (p.1, p.2, sym c.in_err-t.ensures) (bad_table (Err e) (arrivals_of a.numbers.now a.count) a.from a.ticks a.trace.now (number_some e))

pub plan_table-requires : goal.plan_table-requires
plan_table-requires c = table_good c.args.table.now (Ok c.in_ok-t.t) c.in_ok-t.ensures refl

pub returns-in_err-p : goal.returns-in_err-p
unfolding refusal_answer
returns-in_err-p c =
    let a = c.args in
    let p = err_from_is_err_and c.from_residual-in_err-p.result c.from_residual-in_err-p.ensures.1 in
    rw (p.1, p.2, sym c.in_ok-t.ensures) (no_plan_lem (Ok c.in_ok-t.t) (arrivals_of a.numbers.now a.count) a.from a.ticks a.trace.now refl (Err c.in_err-p.field-0.0) c.in_err-p.ensures c.in_err-p.field-0.0 refl)

pub check_call-requires : goal.check_call-requires
check_call-requires c = table_good c.args.table.now (Ok c.in_ok-t.t) c.in_ok-t.ensures refl

pub returns-in_err-xs : goal.returns-in_err-xs
returns-in_err-xs c =
    let a = c.args in
    let p = err_from_is_err_and c.from_residual-in_err-xs.result c.from_residual-in_err-xs.ensures.1 in
    let e = c.in_err-xs.ensures.err in
    rw (p.1, p.2, e.0, sym c.in_ok-t.ensures) (bad_call (Ok c.in_ok-t.t) (arrivals_of a.numbers.now a.count) a.from a.ticks a.trace.now refl (Ok c.in_ok-p.p) c.in_ok-p.ensures c.in_ok-p.p refl _ _ (refl, refl) e.1)

pub chart_of-requires : goal.chart_of-requires
chart_of-requires c = table_good c.args.table.now (Ok c.in_ok-t.t) c.in_ok-t.ensures refl

pub run_ticks-requires : goal.run_ticks-requires
unfolding chart_of
run_ticks-requires c =
    let a = c.args in
    let t = c.in_ok-t.t in
    let xs = arrivals_of a.numbers.now a.count in
    let same = c.in_ok-xs.ensures.ok.0 in
    let g = table_good a.table.now (Ok t) c.in_ok-t.ensures refl in
    let o = sym c.in_ok-p.ensures in
    let k = allowed t xs a.from a.ticks (length a.trace.now) c.in_ok-xs.ensures.ok.1 in
    let plan : c.in_ok-p.p ≡ plan_in (planned_of t) = ap plan_in (sym o) in
    rw (c.chart_of.ensures, plan, same)
    (k.early, k.short, good_chart t g (ap is_planned o), k.room, coming t g xs k.few k.good)

pub returns : goal.returns
returns c =
    let a = c.args in
    let t = c.in_ok-t.t in
    let xs = arrivals_of a.numbers.now a.count in
    let w = runs (Ok t) xs a.from a.ticks a.trace.now refl (Ok c.in_ok-p.p) c.in_ok-p.ensures c.in_ok-p.p refl c.in_ok-xs.ensures.ok.1 in
    let q = c.run_ticks.ensures in
    rw (sym c.in_ok-t.ensures) (q.0 ∙ ap (λ (l : List Arrival). stepped_of c.chart_of.result l a.from a.ticks) c.in_ok-xs.ensures.ok.0 ∙ ap (λ (x : Chart). stepped_of x xs a.from a.ticks) c.chart_of.ensures ∙ w.0, q.1 ∙ ap (λ (l : List Arrival). shown_of c.chart_of.result l a.from a.ticks a.trace.now) c.in_ok-xs.ensures.ok.0 ∙ ap (λ (x : Chart). shown_of x xs a.from a.ticks a.trace.now) c.chart_of.ensures ∙ w.1)
