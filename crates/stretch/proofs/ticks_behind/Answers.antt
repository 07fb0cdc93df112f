-- `stretch::ticks_behind` meets its contract.
use Prim.Native.Nat.{suc}
use mathlib.Core.Path.{◌≡◌}
use native.Mathlib.Omega.{arith}
use Rattle.machine.proofs.Dues.{soonest_le}
use Rattle.stretch.proofs.ticks_behind.Goals as goal

pub returns : goal.returns
returns c =
    let a = c.args in
    let ticks = c.all_go_on-ticks.result in
    let more = c.saturating_sub in
    let all = c.all_go_on-ticks.ensures in
    let calm = c.gap-calm.ensures in
    let free = c.before_arrival-free.ensures in (
      omega (arith, more.ensures, all.0, calm.0, free.0, c.requires.1),
      λ h l. omega (arith, more.ensures, all.0, calm.0, free.1 (omega (arith, more.ensures, all.0, calm.0)) l),
      λ h i l. omega (arith, more.ensures, all.0, calm.1 (omega (arith, more.ensures, all.0)), c.soonest.ensures, soonest_le a.s.now.due a.c.now.n i l),
      λ h q i l p.
          let e : suc more.result ≡ ticks = omega (arith, more.ensures) in
          rw e (all.1 (omega (arith, more.ensures)) q i l p),
    )
