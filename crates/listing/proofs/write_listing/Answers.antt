-- `listing::write_listing` meets its contract. A table that is read is good, and what is read and planned says which text is written.
use Rattle.std.specs.Prelude.{Ok}
use mathlib.Core.Path.{refl, sym, ap}
use native.Mathlib.Omega.{arith}
use Rattle.table.specs.Good.{GoodTable}
use Rattle.table.proofs.Good.{table_good}
use Rattle.plan.specs.Planning.{is_planned}
use Rattle.plan.proofs.Covers.{plan_fits}
use Rattle.plan.specs.Trial.{number_of, names_of, mark_of, value_of}
use Rattle.listing.specs.Listing.{outcome_text, listing_of}
use Rattle.listing.proofs.write_listing.Goals as goal

pub returns-in-Err : goal.returns-in-Err
unfolding listing_of
returns-in-Err c =
    let w = rw (c.number.ensures, c.names.ensures) at c.put_refused.ensures.0 in
    (rw (← c.in-Err.ensures) w, omega arith)

pub plan_table-requires : goal.plan_table-requires
plan_table-requires c = table_good c.args.bytes.now (Ok c.in-Ok.t) c.in-Ok.ensures refl

pub returns-in-Err-plan_table : goal.returns-in-Err-plan_table
unfolding number_of names_of mark_of value_of listing_of outcome_text
returns-in-Err-plan_table c =
    let w = rw c.number-in-Err-plan_table.ensures at c.put_refused-in-Err-plan_table.ensures.0 in
    (rw (← c.in-Ok.ensures, ← c.in-Err-plan_table.ensures) w, omega arith)

pub put_plan-requires : goal.put_plan-requires
put_plan-requires c =
    let t = c.in-Ok.t in
    let g : GoodTable t = table_good c.args.bytes.now (Ok t) c.in-Ok.ensures refl in
    let e = c.in-Ok-plan_table.ensures in
    let f = rw (← e) at (plan_fits t g (ap is_planned (sym e))) in
    (omega arith, g.rows.1, g.processors.1, omega (arith, f.count))

pub returns-in-Ok-plan_table : goal.returns-in-Ok-plan_table
unfolding listing_of outcome_text
returns-in-Ok-plan_table c = (rw (← c.in-Ok.ensures, ← c.in-Ok-plan_table.ensures) c.put_plan.ensures.0, omega arith)
