-- The machine's state on the way through a run.
use Rattle.std.specs.Prelude.{ℕ, ◌<◌, ◌≡◌, true, false, List, length}
use Rattle.jobs.specs.Numbers.{jobs_in}
use Rattle.arrivals.specs.declared.Arrival.{Arrival}
use Rattle.arrivals.specs.Arrival.{brings}
use Rattle.machine.specs.declared.Chart.{Chart}
use Rattle.machine.specs.Tick.{jobs_at, worst_at, late_at}
use Rattle.machine.specs.Good.{Dues, Coming}
use Rattle.run.specs.Run.{is_late}

-- the jobs as numbers, the column of their next releases, the worst responses and the place in the arrivals, after ticks 0 to
-- t - 1, in none of which a release came too early
pub record Stands (c : Chart) (xs : List Arrival) (t : ℕ) (flat dues worst : List ℕ) (next : ℕ) : Type 0 where
  pub whole : length flat ≡ 576
  pub column : length dues ≡ 64
  pub jobs : jobs_in flat ≡ jobs_at c (brings xs) t
  pub dues_are : Dues c.n c.bounds (jobs_in flat) dues
  pub noted : worst ≡ worst_at c (brings xs) t
  pub coming : Coming c.n xs next t
  pub clear : (e : ℕ) → e < t → is_late c xs e ≡ false

-- a release of row `late` came too early in tick `tick`, the first such tick, and it is before tick t
pub record Falls (c : Chart) (xs : List Arrival) (t late : ℕ) : Type 0 where
  pub tick : ℕ
  pub before : tick < t
  pub row : late ≡ late_at c (brings xs) tick
  pub is : is_late c xs tick ≡ true
  pub clear : (e : ℕ) → e < tick → is_late c xs e ≡ false
