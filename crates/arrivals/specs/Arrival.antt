-- "arrivals, lent as a run of records (tick, row, three lengths)"
use denote.Bor.{Bor}
use borrow.Author.Tests.{leb-true}
use Rattle.std.specs.Prelude.{◌≡◌, ℕ, suc, ◌+◌, ◌*◌, Bool, true, false, refl, cond, ◌&&◌, List, [], ◌∷◌, get_or, length, ltb, leb, eqb, Option, Some, None}
use Rattle.std.proofs.lemmas.List.Edits.{sets}
use Rattle.lists.specs.Tab.{tab, joined}
use Rattle.lists.specs.First.{first}
pub use Rattle.arrivals.specs.declared.Arrival.{Arrival}
pub use Rattle.arrivals.specs.declared.flat.Flat.{Flat}

-- what is read past the end of a list
abbrev pub no_arrival : Arrival
no_arrival = record { tick = 0; row = 0; len1 = 0; len2 = 0; len3 = 0 }

-- the arrival at place k of a list; places count from 0
abbrev pub arrival_at : List Arrival → ℕ → Arrival
arrival_at xs k = get_or xs k no_arrival

-- its three lengths
abbrev pub lens_of : Arrival → List ℕ
lens_of a = a.len1 ∷ a.len2 ∷ a.len3 ∷ []

-- the arrival at place k is the one of row i, counted from 0, at tick t
unfoldable pub is_of : List Arrival → ℕ → ℕ → ℕ → Bool
is_of xs i t k = eqb (arrival_at xs k).tick t && eqb (arrival_at xs k).row (suc i)

-- what the arrival of row i at tick t brings, if there is one
unfoldable pub brings : List Arrival → ℕ → ℕ → Option (List ℕ)
brings xs i t =
    cond (ltb (first (length xs) (is_of xs i t)) (length xs))
    (Some (lens_of (arrival_at xs (first (length xs) (is_of xs i t)))))
    None

-- the same arrivals as numbers side by side, five for each
abbrev pub five : Arrival → List ℕ
five a = a.tick ∷ a.row ∷ a.len1 ∷ a.len2 ∷ a.len3 ∷ []

-- the arrival that the numbers have at place k
unfoldable pub arrival_in : List ℕ → ℕ → Arrival
arrival_in flat k =
    record {
      tick = get_or flat (5 * k) 0;
      row = get_or flat (5 * k + 1) 0;
      len1 = get_or flat (5 * k + 2) 0;
      len2 = get_or flat (5 * k + 3) 0;
      len3 = get_or flat (5 * k + 4) 0;
    }

-- the list of arrivals that they stand for
unfoldable pub arrivals_of : List ℕ → ℕ → List Arrival
arrivals_of flat count = tab count (arrival_in flat)

-- the arrivals that are lent as numbers
abbrev pub listed : Flat → List Arrival
listed xs = arrivals_of xs.numbers.now xs.count

-- the numbers of `count` arrivals, lent as such a list: these numbers, and none of more than 4,096
unfoldable pub flat_by : (numbers : Bor (List ℕ)) (count : ℕ) (b : Bool) → leb count 4096 ≡ b → Option Flat
flat_by numbers count true h = Some (record { numbers = numbers; count = count; few = leb-true count 4096 h })
flat_by numbers count false h = None

unfoldable pub flat_in : Bor (List ℕ) → ℕ → Option Flat
flat_in numbers count = flat_by numbers count (leb count 4096) refl

-- the first `count` arrivals of a list, written over the front of an array
unfoldable pub flat_of : List Arrival → ℕ → List ℕ → List ℕ
flat_of xs count out = sets out 0 (joined count (λ k. five (arrival_at xs k)))
