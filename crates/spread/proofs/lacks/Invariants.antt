-- `spread::lacks` meets its contract. The loop's invariant: the first r places hold what their resources lack.
use Prim.Native.Nat.{◌+◌, ◌-◌}
use mathlib.Core.Path.{◌≡◌}
use lib.ListN.{get_or}
use Rattle.lists.specs.Tab.{filled}
use Rattle.spread.proofs.lacks.Given as goal

abbrev pub invariant-loop-r : goal.invariant-loop-r
invariant-loop-r l =
    l.out ≡ filled 64 0 l.r (λ k. 64000000 - get_or l.weight (k + 1) 0)
