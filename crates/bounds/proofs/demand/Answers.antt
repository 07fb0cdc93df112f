-- `bounds::demand` meets its contract. The loop's invariant: the sum so far is `own` and what the terms before this one ask for, and stays
-- far below 2^32.
use native.Mathlib.Omega.{arith}
use Rattle.bounds.specs.Demand.{demand}
use Rattle.bounds.proofs.Asked.{demand_more}
use Rattle.bounds.proofs.demand.Goals as goal

pub loop-x-init : goal.loop-x-init
unfolding demand
loop-x-init c = (omega arith, omega arith)

pub loop-x-preserved : goal.loop-x-preserved
loop-x-preserved c =
    let m = demand_more c.args.terms.now c.loop-x.x-index c.args.t (omega arith) in
    (omega arith, omega arith)
