-- Every part that can run has a processor of its own among those of the chart.
use Rattle.std.specs.Prelude.{ℕ, ◌≤◌, ◌<◌, List, get_or}
use Rattle.picks.specs.Pick.{home}
use Rattle.machine.specs.declared.Chart.{Chart}

-- the processor of row i's part j is one of 1 to m
abbrev pub HasSeat : Chart → ℕ → ℕ → Type 0
HasSeat c i j = (1 ≤ home c.homes i j) × (home c.homes i j ≤ c.m)

-- the stages of each row have one, and its section where it is longer than 0
pub record Seated (c : Chart) (secs : List ℕ) : Type 0 where
  pub first : (i : ℕ) → i < c.n → HasSeat c i 0
  pub section : (i : ℕ) → i < c.n → 1 ≤ get_or secs i 0 → HasSeat c i 1
  pub second : (i : ℕ) → i < c.n → HasSeat c i 2
