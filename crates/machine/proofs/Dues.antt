-- The first of the next releases: none of the rows has an earlier one.
use Prim.Native.Nat.{ℕ, zero, suc, ◌≤◌, ◌<◌}
use mathlib.Core.Path.{◌≡◌}
use mathlib.Core.List.{List}
use mathlib.Core.Logic.{dite}
use native.Mathlib.Omega.{arith}
use native.Mathlib.Decide.{dec_lt}
use native.Mathlib.Nat.{min-le_left, min-le_right}
use lib.ListN.{get_or}
use Rattle.machine.specs.Good.{soonest_of}

module _ (dues : List ℕ) where
  -- none comes before it
  pub soonest_le : (n i : ℕ) → i < n → soonest_of n dues ≤ get_or dues i 0
  unfolding soonest_of
  soonest_le zero i l = absurd (omega arith)
  soonest_le (suc n) i l =
      dite (dec_lt i n)
      (λ s. omega (arith, soonest_le n i s, min-le_right (get_or dues n 0) (soonest_of n dues)))
      (λ s. let e : i ≡ n = omega arith in rw e (min-le_left (get_or dues n 0) (soonest_of n dues)))
