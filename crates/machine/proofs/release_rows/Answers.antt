-- `machine::release_rows` meets its contract.
use native.Mathlib.Omega.{arith}
use Rattle.arrivals.proofs.Numbers.{length_listed}
use Rattle.machine.proofs.Releasing.{all_stay, all_in}
use Rattle.machine.proofs.release_rows.Goals as goal

-- where nothing is due, the rows are as they were
pub returns-then-nothing_due : goal.returns-then-nothing_due
returns-then-nothing_due c =
    let a = c.args in
    let r = c.nothing_due.ensures c.if-nothing_due.true in
    record { ok = all_in c.requires.2 c.requires.3 (all_stay c.requires.2 c.requires.3 r.0 (λ b. r.1 (omega (arith, length_listed a.xs.now))) a.c.now.n (omega arith)); err = tt }
