-- `spread::lightest` meets its contract. The loop's invariant: `best` is the least loaded of the processors ahead of p.
use Prim.Native.Nat.{◌+◌, ◌-◌, ◌≤◌}
use mathlib.Core.Path.{◌≡◌}
use Rattle.spread.specs.Spread.{lightest_of}
use Rattle.spread.proofs.lightest.Given as goal

abbrev pub invariant-loop-p : goal.invariant-loop-p
invariant-loop-p l =
    (l.p ≤ l.s + 1) × (l.best ≡ lightest_of l.load (l.p - 1)) × (1 ≤ l.best) × (l.best ≤ 16)
