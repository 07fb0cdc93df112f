-- The machine: "In each tick: due releases of jobs already there, then arrivals, then releases that an arrival makes due at once;
-- then each processor runs one unit."
use Rattle.std.specs.Prelude.{ℕ, zero, suc, ◌+◌, ◌*◌, max, cond, List, get_or, set, ltb, eqb, Option}
use Rattle.lists.specs.Tab.{tab, blank, filled}
use Rattle.lists.specs.First.{first}
use Rattle.chain.specs.declared.Place.{Place}
use Rattle.chain.specs.declared.Place.TheVariants.{Idle, Waiting, Running}
use Rattle.chain.specs.declared.Job.{Job}
use Rattle.chain.specs.Job.{no_job, job_at}
use Rattle.chain.specs.Release.{released, late}
use Rattle.chain.specs.Unit.{response, unit_of}
use Rattle.picks.specs.Pick.{home, pick}
use Rattle.machine.specs.Chart.{Chart}

-- what the arrival of row i at tick t brings, if there is one
abbrev pub Arrivals : Type 0
Arrivals = ℕ → ℕ → Option (List ℕ)

-- row i's job after the tick: it runs a unit where the processor of its running part picks it
unfoldable pub serve_at : List ℕ → List ℕ → List ℕ → ℕ → ℕ → Job → Place → Job
serve_at picked bounds homes t i x Idle = x
serve_at picked bounds homes t i x (Waiting u j) = x
serve_at picked bounds homes t i x (Running j l) = cond (eqb (get_or picked (home homes i j) 0) (suc i)) (unit_of bounds i t x j l) x

abbrev pub serve : List ℕ → List ℕ → List ℕ → ℕ → ℕ → Job → Job
serve picked bounds homes t i x = serve_at picked bounds homes t i x x.place

-- "each byte 2 bits of kind (0 idle, 1 stage one, 2 section, 3 stage two) and 6 bits row − 1"
unfoldable pub kind_of : Place → ℕ
kind_of Idle = 0
kind_of (Waiting u j) = 0
kind_of (Running j l) = suc j

-- the byte of a processor that runs this row, numbered from 1: "Idle is a zero byte."
unfoldable pub byte_of : List Job → ℕ → ℕ
byte_of js zero = 0
byte_of js (suc i) = kind_of (job_at js i).place * 64 + i

-- the worst responses once row i has run a unit in tick t: where its part ends, the larger of its response and the worst before
unfoldable pub noted_at : List ℕ → ℕ → ℕ → Job → Place → List ℕ → List ℕ
noted_at bounds t i x Idle worst = worst
noted_at bounds t i x (Waiting u j) worst = worst
noted_at bounds t i x (Running j l) worst =
    cond (ltb 1 l)
    worst
    (set worst (3 * i + j) (max (get_or worst (3 * i + j) 0) (response bounds i t x.arrived j)))

-- the same for a processor that runs this row, numbered from 1, or none
unfoldable pub noted : List ℕ → ℕ → List Job → ℕ → List ℕ → List ℕ
noted bounds t js zero worst = worst
noted bounds t js (suc i) worst = noted_at bounds t i (job_at js i) (job_at js i).place worst

-- the same once the first q processors have run their units
unfoldable pub noted_to : List ℕ → ℕ → List Job → List ℕ → ℕ → List ℕ → List ℕ
noted_to bounds t js picked zero worst = worst
noted_to bounds t js picked (suc q) worst = noted bounds t js (get_or picked (suc q) 0) (noted_to bounds t js picked q worst)

-- the jobs of n rows once the releases of tick t are in
unfoldable pub releases : ℕ → List ℕ → Arrivals → ℕ → List Job → List Job
releases n bounds ar t js = filled 64 no_job n (λ i. released bounds i t (job_at js i) (ar i t))

-- the first of n rows, counted from 0, with a release that comes too early in tick t; n if there is none
unfoldable pub late_row : ℕ → List ℕ → Arrivals → ℕ → List Job → ℕ
late_row n bounds ar t js = first n (λ i. late bounds i t (job_at js i) (ar i t))

module _ (c : Chart) where
  -- the row that each processor runs, at the processor's number
  unfoldable pub picked : List Job → List ℕ
  picked js = tab 17 (pick c.homes c.rank c.top c.n js)

  -- "then each processor runs one unit"
  unfoldable pub units : ℕ → List Job → List Job
  units t js = filled 64 no_job c.n (λ i. serve (picked js) c.bounds c.homes t i (job_at js i))

  -- "m bytes for each tick, processor 1 first"
  unfoldable pub bytes : List Job → List ℕ
  bytes js = tab c.m (λ k. byte_of js (get_or (picked js) (suc k) 0))

  -- the worst responses after tick t, whose releases gave these jobs
  unfoldable pub worse : ℕ → List Job → List ℕ → List ℕ
  worse t js worst = noted_to c.bounds t js (picked js) c.m worst

  module _ (ar : Arrivals) where
    -- one tick: the releases, then the units
    unfoldable pub step : ℕ → List Job → List Job
    step t js = units t (releases c.n c.bounds ar t js)

    -- the jobs after ticks 0 to t - 1, from the empty start; and once the releases of tick t are in
    unfoldable pub jobs_at : ℕ → List Job
    jobs_at zero = blank 64 no_job
    jobs_at (suc t) = step t (jobs_at t)

    unfoldable pub released_at : ℕ → List Job
    released_at t = releases c.n c.bounds ar t (jobs_at t)

    -- the trace's bytes of tick t
    unfoldable pub bytes_at : ℕ → List ℕ
    bytes_at t = bytes (released_at t)

    -- the worst responses after ticks 0 to t - 1, three for each row
    unfoldable pub worst_at : ℕ → List ℕ
    worst_at zero = blank 192 0
    worst_at (suc t) = worse t (released_at t) (worst_at t)

    -- the first row with a release that comes too early in tick t
    unfoldable pub late_at : ℕ → ℕ
    late_at t = late_row c.n c.bounds ar t (jobs_at t)
