-- `picks::picks` meets its contract. The loop's invariant: each processor passed has its choice.
use mathlib.Core.Path.{◌≡◌, sym, ◌∙◌}
use native.Mathlib.Omega.{arith}
use Rattle.lists.proofs.Tab.{filled_none, filled_next, filled_all, tab_same}
use Rattle.jobs.specs.Numbers.{jobs_in}
use Rattle.picks.proofs.Picked.{pick_is}
use Rattle.picks.proofs.picks.Goals as goal

pub loop-q-init : goal.loop-q-init
loop-q-init c = c.blank-out.ensures ∙ sym (filled_none 17 0 _)

pub loop-q-preserved : goal.loop-q-preserved
loop-q-preserved c =
    let l = c.loop-q in
    rw c.choose.ensures (filled_next 17 0 _ l.q l.out (omega arith) l.invariant)

pub returns : goal.returns
returns c =
    let e : c.loop-q.q ≡ 17 = omega (arith, c.loop-q.auto.q-end) in
    (rw e at c.loop-q.invariant) ∙ filled_all 17 0 _
    ∙ tab_same 17 _ _ (λ q b. pick_is c.args.homes.now c.args.rank.now c.args.top.now c.args.n (jobs_in c.args.jobs.now) q c.requires.0.ranked _ (c.look_over.ensures q b))
