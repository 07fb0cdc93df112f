-- `chain::enter` meets its contract. The loop's invariant: from `part` on the job goes where it goes from `from` on.
use Prim.Native.Nat.{◌-◌}
use mathlib.Core.Path.{◌≡◌}
use Rattle.chain.specs.Release.{enter}
use Rattle.chain.proofs.enter.Given as goal

abbrev pub invariant-loop-part : goal.invariant-loop-part
invariant-loop-part l =
    enter l.row.bounds.now l.row.i l.arrived l.lens l.t (3 - l.part) l.part ≡ enter l.row.bounds.now l.row.i l.arrived l.lens l.t (3 - l.from) l.from
