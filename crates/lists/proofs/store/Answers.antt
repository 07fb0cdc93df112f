-- `lists::store` meets its contract: the first k bytes are stored.
use native.Mathlib.Omega.{arith}
use Rattle.lists.proofs.Sets.{sets_more}
use Rattle.lists.proofs.store.Goals as goal

pub loop-k-preserved : goal.loop-k-preserved
loop-k-preserved c =
    let l = c.loop-k in
    let a = c.args in
    rw l.invariant (sets_more a.out.now a.at a.bytes.now l.k 0 (omega arith))
