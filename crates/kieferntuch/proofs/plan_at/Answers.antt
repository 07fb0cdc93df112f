-- `kieferntuch::plan_at` meets its contract. Each return is one of the four ways in which a call ends.
use Prim.Native.Nat.{◌+◌, ◌*◌}
use mathlib.Core.Path.{sym, ◌∙◌, ap}
use borrow.Author.Tests.{ltb-true, ltb-false, not-true, not-false}
use lib.ListN.{length}
use Rattle.std.proofs.lemmas.Result.{err_from_is_err_and}
use Rattle.plan.specs.Planning.{is_planned}
use Rattle.plan.proofs.Covers.{plan_fits}
use Rattle.kieferntuch.proofs.Planned.{read_good, refused, too_short, no_plan_lem, has_plan}
use Rattle.kieferntuch.proofs.plan_at.Goals as goal

pub returns-in_err-t : goal.returns-in_err-t
returns-in_err-t c =
    let p = err_from_is_err_and c.from_residual.result c.from_residual.ensures.1 in
    rw (p.1, p.2, sym c.in_err-t.ensures) (refused c.args.at c.args.sheet.now c.in_err-t.field-0.0)

pub has_room-requires : goal.has_room-requires
has_room-requires c = (read_good c.args.table.now c.in_ok-t.t c.in_ok-t.ensures).rows.1

pub returns-then-not-has_room : goal.returns-then-not-has_room
returns-then-not-has_room c =
    let a = c.args in
    let t = c.in_ok-t.t in
    let n = ltb-true (length a.sheet.now) (a.at + (12 + 9 * t.n)) (not-false _ (sym c.has_room.ensures ∙ c.if-not-has_room.true)) in
    rw (sym c.in_ok-t.ensures) (too_short a.at a.sheet.now t n)

pub plan_table-requires : goal.plan_table-requires
plan_table-requires c = read_good c.args.table.now c.in_ok-t.t c.in_ok-t.ensures

pub returns-in_err-p : goal.returns-in_err-p
returns-in_err-p c =
    let a = c.args in
    let t = c.in_ok-t.t in
    let room = ltb-false (length a.sheet.now) (a.at + (12 + 9 * t.n)) (not-true _ (sym c.has_room.ensures ∙ c.if-not-has_room.false)) in
    let p = err_from_is_err_and c.from_residual-in_err-p.result c.from_residual-in_err-p.ensures.1 in
    rw (p.1, p.2, sym c.in_ok-t.ensures) (no_plan_lem a.at a.sheet.now t room c.in_err-p.field-0.0 c.in_err-p.ensures)

pub write_at-requires : goal.write_at-requires
write_at-requires c =
    let a = c.args in
    let t = c.in_ok-t.t in
    let room = ltb-false (length a.sheet.now) (a.at + (12 + 9 * t.n)) (not-true _ (sym c.has_room.ensures ∙ c.if-not-has_room.false)) in
    let g = read_good a.table.now t c.in_ok-t.ensures in
    let e = c.in_ok-p.ensures in
    (g.rows.1, g.processors.1, room, rw (← e) at (plan_fits t g (ap is_planned (sym e))))

pub returns : goal.returns
returns c =
    let a = c.args in
    let t = c.in_ok-t.t in
    let room = ltb-false (length a.sheet.now) (a.at + (12 + 9 * t.n)) (not-true _ (sym c.has_room.ensures ∙ c.if-not-has_room.false)) in
    rw (sym c.in_ok-t.ensures) (has_plan a.at a.sheet.now t room c.in_ok-p.p c.write_at.new.sheet c.in_ok-p.ensures c.write_at.ensures)
