-- The rows' jobs, tick after tick: what is counted of them is what the arrivals added.
use Prim.Native.Nat.{ℕ, zero, suc, ◌+◌, ◌≤◌, ◌<◌}
use mathlib.Core.Path.{◌≡◌, ◌∙◌, ap}
use mathlib.Core.Bool.{false}
use mathlib.Core.List.{List}
use Rattle.std.specs.Prelude.{Some}
use native.Mathlib.Omega.{arith}
use lib.ListN.{get_or}
use Rattle.lists.proofs.Tab.{get_or-blank}
use Rattle.lists.proofs.First.{first_no}
use Rattle.chain.specs.declared.Job.{Job}
use Rattle.chain.specs.Job.{no_job, job_at}
use Rattle.chain.specs.Release.{released, late}
use Rattle.chain.proofs.Counts.{Counted}
use Rattle.arrivals.specs.declared.Arrival.{Arrival}
use Rattle.arrivals.specs.Arrival.{brings}
use Rattle.arrivals.specs.Seek.{GoodArrivals}
use Rattle.arrivals.proofs.Seeking.{brings_fits}
use Rattle.machine.specs.Chart.{Chart}
use Rattle.machine.specs.Tick.{Arrivals, serve, late_row, picked, step, jobs_at, released_at, late_at}
use Rattle.lists.specs.Total.{total}
use Rattle.machine.proofs.Keep.{releases_at, units_at}
use Rattle.lists.proofs.Total.{total_ext}
use Rattle.machine.proofs.Rows.{Sound, Fits, sound_none, added, sound_released, released_count, sound_serve, serve_count}

module _ (c : Chart) (ar : Arrivals) (t i : ℕ) (l : i < c.n) where
  -- row i's job once the releases of tick t are in, and after the tick
  pub released_at_lem : job_at (released_at c ar t) i ≡ released c.bounds i t (job_at (jobs_at c ar t) i) (ar i t)
  unfolding released_at
  released_at_lem = releases_at c.n c.bounds ar t (jobs_at c ar t) i l

  pub served_at : job_at (jobs_at c ar (suc t)) i ≡ serve (picked c (released_at c ar t)) c.bounds c.homes t i (job_at (released_at c ar t) i)
  unfolding jobs_at step released_at
  served_at = units_at c t (released_at c ar t) i l

  -- no release of row i comes too early in tick t
  in_time : c.n ≤ late_at c ar t → late c.bounds i t (job_at (jobs_at c ar t) i) (ar i t) ≡ false
  unfolding late_at late_row
  in_time h = first_no c.n (λ k. late c.bounds k t (job_at (jobs_at c ar t) k) (ar k t)) i (omega arith)

module _ (c : Chart) (periods c1s secs c2s : List ℕ) (xs : List Arrival) (good : GoodArrivals c.n periods c1s secs c2s xs) where
  -- what a good list brings keeps to the table
  fits : (i t : ℕ) (ls : List ℕ) → brings xs i t ≡ Some ls → Fits (get_or secs i 0) t ls
  fits i t ls e =
      let b = brings_fits c.n periods c1s secs c2s xs good i t ls e in
      record { tick = omega (arith, b.tick); three = b.three; section = b.len2 }

  -- a job that is sound before the releases of a tick is so behind them
  sound_from : (t i : ℕ) → i < c.n → Sound (get_or secs i 0) (job_at (jobs_at c (brings xs) t) i) → Sound (get_or secs i 0) (job_at (released_at c (brings xs) t) i)
  sound_from t i l s = rw (released_at_lem c (brings xs) t i l) (sound_released c.bounds i t (get_or secs i 0) _ s (brings xs i t) (fits i t))

  -- so every job is sound, before each tick and once its releases are in
  sound_at : (t i : ℕ) → i < c.n → Sound (get_or secs i 0) (job_at (jobs_at c (brings xs) t) i)
  unfolding jobs_at
  sound_at zero i l = rw (get_or-blank 64 no_job i) (sound_none (get_or secs i 0))
  sound_at (suc t) i l = rw (served_at c (brings xs) t i l) (sound_serve c.bounds i t (get_or secs i 0) _ (sound_from t i l (sound_at t i l)) (picked c (released_at c (brings xs) t)) c.homes)

  pub sound_mid : (t i : ℕ) → i < c.n → Sound (get_or secs i 0) (job_at (released_at c (brings xs) t) i)
  sound_mid t i l = sound_from t i l (sound_at t i l)

  module _ (count : Job → ℕ) (adds : List ℕ → ℕ) (law : Counted count adds) where
    -- what a tick adds to what is counted of row i
    row_step : (t i : ℕ) → i < c.n → c.n ≤ late_at c (brings xs) t → count (job_at (jobs_at c (brings xs) (suc t)) i) ≡ count (job_at (jobs_at c (brings xs) t) i) + added adds (brings xs i t)
    row_step t i l h =
        ap count (served_at c (brings xs) t i l)
        ∙ serve_count c.bounds i t (get_or secs i 0) _ (sound_mid t i l) (picked c (released_at c (brings xs) t)) c.homes count adds law
        ∙ ap count (released_at_lem c (brings xs) t i l)
        ∙ released_count c.bounds i t (get_or secs i 0) _ (sound_at t i l) (brings xs i t) (fits i t) count adds law (in_time c (brings xs) t i l h)

    -- and what all ticks before tick e add
    row_count : (e i : ℕ) → i < c.n → ((t : ℕ) → t < e → c.n ≤ late_at c (brings xs) t) → count (job_at (jobs_at c (brings xs) e) i) ≡ total e (λ t. added adds (brings xs i t))
    unfolding jobs_at total
    row_count zero i l h = ap count (get_or-blank 64 no_job i) ∙ law.start
    row_count (suc e) i l h = omega (arith, row_step e i l (h e (omega arith)), row_count e i l (λ t k. h t (omega arith)))

    -- the sum over the rows
    pub rows_count : (e : ℕ) → ((t : ℕ) → t < e → c.n ≤ late_at c (brings xs) t) →
        total c.n (λ i. count (job_at (jobs_at c (brings xs) e) i)) ≡ total c.n (λ i. total e (λ t. added adds (brings xs i t)))
    rows_count e h = total_ext c.n _ _ (λ i l. row_count e i l h)
