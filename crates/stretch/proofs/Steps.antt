-- A stretch of ticks of the run from the empty start.
use Prim.Native.Nat.{ℕ, zero, suc, ◌+◌}
use mathlib.Core.Path.{◌≡◌, ap}
use native.Mathlib.Nat.{add-zero, add-suc}
use Rattle.machine.specs.declared.Chart.{Chart}
use Rattle.machine.specs.Tick.{Arrivals, late_row, bytes, step, jobs_at, released_at, bytes_at, worst_at, late_at}
use Rattle.stretch.specs.Stretch.{steps_from, there_after, worst_from}

module _ (c : Chart) (ar : Arrivals) (t : ℕ) where
  -- its jobs,
  pub steps_from_lem : (k : ℕ) → jobs_at c ar (t + k) ≡ steps_from c ar t k (jobs_at c ar t)
  unfolding steps_from jobs_at
  steps_from_lem zero = rw (add-zero t)
  steps_from_lem (suc k) = rw (add-suc t k) (ap (step c ar (t + k)) (steps_from_lem k))

  -- those behind the releases of its ticks,
  there_from : (k : ℕ) → released_at c ar (t + k) ≡ there_after c ar t k (jobs_at c ar t)
  unfolding released_at there_after
  there_from k = rw (steps_from_lem k)

  -- its worst responses,
  pub worst_from_lem : (k : ℕ) → worst_at c ar (t + k) ≡ worst_from c ar t k (jobs_at c ar t) (worst_at c ar t)
  unfolding worst_at worst_from
  worst_from_lem zero = rw (add-zero t)
  worst_from_lem (suc k) = rw (add-suc t k, there_from k, worst_from_lem k)

  -- its late rows,
  pub late_from : (j : ℕ) → late_at c ar (t + j) ≡ late_row c.n c.bounds ar (t + j) (steps_from c ar t j (jobs_at c ar t))
  unfolding late_at
  late_from j = rw (steps_from_lem j)

  -- and its bytes
  pub bytes_from : (j : ℕ) → bytes_at c ar (t + j) ≡ bytes c (there_after c ar t j (jobs_at c ar t))
  unfolding bytes_at
  bytes_from j = rw (there_from j)
