-- `machine::show` meets its contract: the bytes of the first k processors are written.
use Prim.Native.Nat.{suc}
use mathlib.Core.Path.{refl}
use native.Mathlib.Omega.{arith}
use native.Mathlib.Numerals.{add-one}
use lib.ListN.{get_or}
use Rattle.lists.specs.Tab.{tab}
use Rattle.jobs.specs.Numbers.{jobs_in}
use Rattle.machine.specs.Tick.{byte_of}
use Rattle.machine.proofs.Served.{write_next}
use Rattle.machine.proofs.show.Goals as goal

pub loop-k-init : goal.loop-k-init
unfolding tab
loop-k-init c = refl

pub loop-k-preserved : goal.loop-k-preserved
loop-k-preserved c =
    let l = c.loop-k in
    write_next (λ q. byte_of (jobs_in c.args.jobs.now) (get_or c.args.picked.now (suc q) 0)) c.args.lane.now l.k l.lane l.invariant 0 c.byte_of.result (omega arith) (rw (add-one l.k) at c.byte_of.ensures)
