-- `chain::enter` meets its contract. The loop's invariant: from `part` on the job goes where it goes from `from` on.
use mathlib.Core.Path.{◌≡◌, sym, ◌∙◌}
use native.Mathlib.Omega.{arith}
use Rattle.chain.specs.Release.{enter}
use Rattle.chain.proofs.Entering.{from_waits, from_runs, from_next}
use Rattle.chain.proofs.enter.Goals as goal

pub returns-then-t-due : goal.returns-then-t-due
returns-then-t-due c =
    let l = c.loop-part in
    let e = c.release_of-due.ensures.0 in
    rw e (sym (from_waits c.args.row.bounds.now c.args.row.i c.args.arrived c.args.lens c.args.t l.part (omega arith) (omega arith)) ∙ l.invariant)

pub returns-then-len-gt0 : goal.returns-then-len-gt0
returns-then-len-gt0 c =
    let l = c.loop-part in
    let e = c.release_of-due.ensures.0 in
    sym (from_runs c.args.row.bounds.now c.args.row.i c.args.arrived c.args.lens c.args.t l.part (omega arith) (omega arith) c.if-len-gt0.true) ∙ l.invariant

pub loop-part-preserved : goal.loop-part-preserved
loop-part-preserved c =
    let l = c.loop-part in
    let e = c.release_of-due.ensures.0 in
    sym (from_next c.args.row.bounds.now c.args.row.i c.args.arrived c.args.lens c.args.t l.part (omega arith) (omega arith) (omega arith)) ∙ l.invariant

pub returns : goal.returns
unfolding enter
returns c = let e : c.loop-part.part ≡ 3 = omega (arith, c.loop-part.auto.part-end) in rw e at c.loop-part.invariant
