-- Arrivals as numbers side by side.
use Prim.Native.Nat.{ℕ, ◌+◌, ◌*◌, ◌≤◌, ◌<◌}
use mathlib.Core.Path.{◌≡◌, refl}
use mathlib.Core.Bool.{Bool, true, false, ◌&&◌}
use native.Mathlib.Bridge.{le_prop}
use native.Mathlib.Omega.{arith}
use borrow.Author.Tests.{leb-true, leb-false}
use denote.Bor.{Bor}
use Rattle.std.specs.Prelude.{Some, None}
use mathlib.Core.List.{List}
use native.Mathlib.Numerals.{add-one}
use lib.ListN.{length, get_or}
use lib.Dec.{eqb, leb}
use Rattle.lists.proofs.Tab.{length-tab, get_or-tab}
use Rattle.arrivals.specs.Arrival.{Flat, no_arrival, arrival_at, is_of, arrival_in, arrivals_of, listed, flat_by, flat_in}

-- as many arrivals as are counted
pub length_arrivals : (flat : List ℕ) (count : ℕ) → length (arrivals_of flat count) ≡ count
unfolding arrivals_of
length_arrivals flat count = length-tab count (arrival_in flat)

-- an arrival is what its five numbers say
pub arrival_at_lem : (flat : List ℕ) (count k : ℕ) → k < count → arrival_at (arrivals_of flat count) k ≡ arrival_in flat k
unfolding arrivals_of
arrival_at_lem flat count k h = get_or-tab count (arrival_in flat) k no_arrival h

-- whether it is the one of a row at a tick, by its numbers
pub is_of_by : (flat : List ℕ) (count i t k : ℕ) → k < count → is_of (arrivals_of flat count) i t k ≡ (eqb (get_or flat (5 * k) 0) t && eqb (get_or flat (5 * k + 1) 0) (i + 1))
unfolding is_of arrival_in
is_of_by flat count i t k h = rw (add-one i, arrival_at_lem flat count k h)

-- and where they are lent
pub length_listed : (xs : Flat) → length (listed xs) ≡ xs.count
length_listed xs = length_arrivals xs.numbers.now xs.count

-- of more than 4,096 arrivals there is no list, and else there is this one
module _ (numbers : Bor (List ℕ)) (count : ℕ) where
  pub flat_many : 4096 < count → None ≡ flat_in numbers count
  unfolding flat_in flat_by
  flat_many l = go (leb count 4096) refl
    where
      go : (b : Bool) (h : leb count 4096 ≡ b) → None ≡ flat_by numbers count b h
      go true h = absurd (omega (arith, leb-true count 4096 h))
      go false h = refl

  pub flat_few : (few : count ≤ 4096) → Some (record { numbers = numbers; count = count; few = few }) ≡ flat_in numbers count
  unfolding flat_in flat_by
  flat_few few = go (leb count 4096) refl
    where
      go : (b : Bool) (h : leb count 4096 ≡ b) → Some (record { numbers = numbers; count = count; few = few }) ≡ flat_by numbers count b h
      go true h = λ i. Some (record { numbers = numbers; count = count; few = le_prop few (leb-true count 4096 h) i })
      go false h = absurd (omega (arith, leb-false count 4096 h))
