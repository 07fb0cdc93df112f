-- `kieferntuch::write_at` meets its contract. What is written at the start of the part stands from `at` on in the sheet.
use native.Mathlib.Omega.{arith}
use Rattle.sheet.proofs.ReadBack.{plan_size}
use Rattle.kieferntuch.specs.Sheet.{bytes_of}
use Rattle.kieferntuch.proofs.Planned.{written}
use Rattle.kieferntuch.proofs.write_at.Goals as goal

pub write_plan-requires : goal.write_plan-requires
write_plan-requires c =
    let f = c.requires.3 in
    (c.requires.0, c.requires.1, f.count, omega arith, f.serves, f.rows)

pub returns : goal.returns
returns c =
    let a = c.args in
    let t = a.t.now in
    let p = a.p.now in
    written a.sheet.now a.at c.write_plan.new.part (bytes_of t p)
    (omega (arith, plan_size t.n t.m p.s p.serves p.processor p.d1 p.section p.d2)) c.write_plan.ensures
