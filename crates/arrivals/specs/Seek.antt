-- Arrivals in their order, and the place in them that a run has come to.
use Rattle.std.specs.Prelude.{ℕ, suc, ◌+◌, ◌*◌, ◌≤◌, ◌<◌, ◌≡◌, List, get_or, length}
use Rattle.arrivals.specs.Arrival.{Arrival, arrival_at}

-- the order of arrivals as one number: tick by tick, and row by row
abbrev pub key_of : Arrival → ℕ
key_of a = a.tick * 64 + a.row

-- a list without a bad arrival, of a table with n rows
pub record GoodArrivals (n : ℕ) (periods c1s secs c2s : List ℕ) (xs : List Arrival) : Type 0 where
  pub rows : (k : ℕ) → k < length xs → (1 ≤ (arrival_at xs k).row) × ((arrival_at xs k).row ≤ n)
  pub ticks : (k : ℕ) → k < length xs → (arrival_at xs k).tick < 1000000
  pub sorted : (k : ℕ) → suc k < length xs → key_of (arrival_at xs k) < key_of (arrival_at xs (suc k))
  pub lengths : (k i : ℕ) → k < length xs → (arrival_at xs k).row ≡ suc i
      → ((arrival_at xs k).len1 ≤ get_or c1s i 0) × ((arrival_at xs k).len2 ≤ get_or secs i 0) × ((arrival_at xs k).len3 ≤ get_or c2s i 0)
  pub apart : (j k i : ℕ) → j < k → k < length xs → (arrival_at xs j).row ≡ suc i → (arrival_at xs k).row ≡ suc i
      → (arrival_at xs j).tick + get_or periods i 0 ≤ (arrival_at xs k).tick

-- place `next` of the list is where the arrivals from the key on begin
pub record Seek (xs : List Arrival) (next key : ℕ) : Type 0 where
  pub inside : next ≤ length xs
  pub past : (k : ℕ) → k < next → key_of (arrival_at xs k) < key
  pub ahead : (k : ℕ) → next ≤ k → k < length xs → key ≤ key_of (arrival_at xs k)
