-- What the machine keeps from tick to tick: its jobs stay good, and their counts small; rows past n stay empty, and the worst
-- responses in their places.
use Prim.Native.Nat.{ℕ, zero, suc, ◌+◌, ◌*◌, ◌≤◌, ◌<◌}
use mathlib.Core.Path.{◌≡◌, refl, sym, ◌∙◌}
use mathlib.Core.Bool.{Bool, true, false, cond}
use mathlib.Core.List.{List}
use mathlib.Core.Logic.{dite}
use native.Mathlib.Omega.{arith}
use native.Mathlib.Decide.{dec_lt}
use lib.Dec.{ltb, eqb}
use lib.ListN.{length, get_or, set, length-set, get_or-eq_default}
use Rattle.lists.specs.Tab.{tab}
use Rattle.lists.proofs.Tab.{get_or-filled, get_or-rest, get_or-tab, get_or-blank, length-tab, length-blank}
use Rattle.chain.specs.declared.Place.{Place}
use Rattle.chain.specs.declared.Place.TheVariants.{Idle, Waiting, Running}
use Rattle.chain.specs.declared.Job.{Job}
use Rattle.chain.specs.Job.{no_job, job_at}
use Rattle.chain.specs.Release.{released}
use Rattle.chain.specs.Unit.{unit_of}
use Rattle.chain.specs.Good.{GoodJob, Small}
use Rattle.chain.proofs.Places.{part_small}
use Rattle.chain.proofs.Keeps.{good_released, ended_released, ran_released, begun_released, good_unit, ended_unit, ran_unit, begun_unit}
use Rattle.picks.specs.Pick.{home, pick}
use Rattle.picks.proofs.Picked.{Runs, pick_runs}
use Rattle.machine.specs.Chart.{Chart}
use Rattle.machine.specs.Tick.{Arrivals, serve_at, serve, noted_at, noted, noted_to, releases, picked, units, worse, step, jobs_at, worst_at}
use Rattle.machine.specs.Good.{GoodJobs}

-- a task that has not arrived is good
good_none : GoodJob no_job
good_none = record { arrived = omega arith; part = omega arith }

-- row i's job once the releases of a tick are in
pub releases_at : (n : ℕ) (bounds : List ℕ) (ar : Arrivals) (t : ℕ) (js : List Job) (i : ℕ) → i < n → job_at (releases n bounds ar t js) i ≡ released bounds i t (job_at js i) (ar i t)
unfolding releases
releases_at n bounds ar t js i h = get_or-filled 64 no_job (λ k. released bounds k t (job_at js k) (ar k t)) n i no_job h

module _ (n : ℕ) (bounds : List ℕ) (ar : Arrivals) (t : ℕ) (js : List Job) (good : GoodJobs n t js) (h : t ≤ 1000000) where
  -- a job is good, has ended at most twice more, and has not run or begun
  pub good_releases : (i : ℕ) → i < n → GoodJob (job_at (releases n bounds ar t js) i) × ((job_at (releases n bounds ar t js) i).ended ≤ 3 * t + 2) × ((job_at (releases n bounds ar t js) i).ran ≤ t) × ((job_at (releases n bounds ar t js) i).begun ≤ t)
  good_releases i l =
      let g = good i l in
      rw (releases_at n bounds ar t js i l) (
        good_released bounds i t (job_at js i) g.0 h (ar i t),
        omega (arith, g.1.ended, ended_released bounds i t (job_at js i) (ar i t)),
        omega (arith, g.1.ran, ran_released bounds i t (job_at js i) (ar i t)),
        omega (arith, g.1.begun, begun_released bounds i t (job_at js i) (ar i t)),
      )

  -- so are all 64 places
  pub all_good : (i : ℕ) → i < 64 → GoodJob (job_at (releases n bounds ar t js) i)
  unfolding releases
  all_good i l =
      dite (dec_lt i n)
      (λ k. (good_releases i k).0)
      (λ k. rw (get_or-rest 64 no_job (λ k. released bounds k t (job_at js k) (ar k t)) n i no_job (omega arith) l) good_none)

-- a job has run a unit of its running part, or is as it was
pub serve_cases : (P : Job → Type 0) (rows bounds homes : List ℕ) (t i : ℕ) (x : Job) → P x → ((j l : ℕ) → x.place ≡ Running j l → P (unit_of bounds i t x j l)) → P (serve rows bounds homes t i x)
unfolding serve_at
serve_cases P rows bounds homes t i x same unit = go x.place refl
  where
    runs : (b : Bool) (j l : ℕ) → x.place ≡ Running j l → P (cond b (unit_of bounds i t x j l) x)
    runs true j l e = unit j l e
    runs false j l e = same

    go : (p : Place) → x.place ≡ p → P (serve_at rows bounds homes t i x p)
    go Idle e = same
    go (Waiting u j) e = same
    go (Running j l) e = runs (eqb (get_or rows (home homes i j) 0) (suc i)) j l e

-- a response is noted in the place of one before
length-noted : (bounds : List ℕ) (t : ℕ) (js : List Job) (row : ℕ) (worst : List ℕ) → length (noted bounds t js row worst) ≡ length worst
unfolding noted noted_at
length-noted bounds t js zero worst = refl
length-noted bounds t js (suc i) worst = go (job_at js i).place
  where
    ends : (b : Bool) (k v : ℕ) → length (cond b worst (set worst k v)) ≡ length worst
    ends true k v = refl
    ends false k v = length-set worst k v

    go : (p : Place) → length (noted_at bounds t i (job_at js i) p worst) ≡ length worst
    go Idle = refl
    go (Waiting u j) = refl
    go (Running j l) = ends (ltb 1 l) _ _

-- and so it is for the first q processors
length_notes : (bounds : List ℕ) (t : ℕ) (js : List Job) (rows : List ℕ) (q : ℕ) (worst : List ℕ) → length (noted_to bounds t js rows q worst) ≡ length worst
unfolding noted_to
length_notes bounds t js rows zero worst = refl
length_notes bounds t js rows (suc q) worst = length-noted bounds t js _ _ ∙ length_notes bounds t js rows q worst

module _ (c : Chart) where
  -- row i's job after the units of a tick
  pub units_at : (t : ℕ) (js : List Job) (i : ℕ) → i < c.n → job_at (units c t js) i ≡ serve (picked c js) c.bounds c.homes t i (job_at js i)
  unfolding units
  units_at t js i h = get_or-filled 64 no_job (λ k. serve (picked c js) c.bounds c.homes t k (job_at js k)) c.n i no_job h

  module _ (ar : Arrivals) where
    -- a tick keeps the jobs good
    good_step : (t : ℕ) (js : List Job) → GoodJobs c.n t js → t ≤ 1000000 → GoodJobs c.n (suc t) (step c ar t js)
    unfolding step
    good_step t js good h i l =
        let there = releases c.n c.bounds ar t js in
        let x = job_at there i in
        let g = good_releases c.n c.bounds ar t js good h i l in
        let e = units_at t there i l in
        rw e
        (serve_cases (λ y. GoodJob y × Small (suc t) y) (picked c there) c.bounds c.homes t i x
        (g.0, record { ended = omega arith; ran = omega arith; begun = omega arith })
        (λ j k p. (
          good_unit c.bounds i t x j k g.0.arrived (part_small x.place j k g.0.part p),
          record { ended = omega (arith, ended_unit c.bounds i t x j k); ran = omega (arith, ran_unit c.bounds i t x j k); begun = begun_unit c.bounds i t x j k g.3 },
        )))

    -- so it is before each tick
    pub good_at : (t : ℕ) → t ≤ 1000000 → GoodJobs c.n t (jobs_at c ar t)
    unfolding jobs_at
    good_at zero h = λ i l. rw (get_or-blank 64 no_job i) (good_none, record { ended = omega arith; ran = omega arith; begun = omega arith })
    good_at (suc t) h = good_step t (jobs_at c ar t) (good_at t (omega arith)) (omega arith)

    -- no task of a row past n arrives
    pub past_at : (t i : ℕ) → c.n ≤ i → i < 64 → job_at (jobs_at c ar t) i ≡ no_job
    unfolding jobs_at step units
    past_at zero i h l = get_or-blank 64 no_job i
    past_at (suc t) i h l = get_or-rest 64 no_job _ c.n i no_job h l

    -- three worst responses are kept for each of 64 rows
    pub length-worst : (t : ℕ) → length (worst_at c ar t) ≡ 192
    unfolding worst_at worse
    length-worst zero = length-blank 192 0
    length-worst (suc t) = length_notes c.bounds t _ _ c.m _ ∙ length-worst t

  -- a row that is picked is picked at one of the 17 processors,
  pub picked_pick : (js : List Job) (q i : ℕ) → get_or (picked c js) q 0 ≡ suc i → (q < 17) × (pick c.homes c.rank c.top c.n js q ≡ suc i)
  unfolding picked
  picked_pick js q i e =
      let f = pick c.homes c.rank c.top c.n js in
      dite (dec_lt q 17)
      (λ l. (l, sym (get_or-tab 17 f q 0 l) ∙ e))
      (λ l. absurd (omega (arith, get_or-eq_default (tab 17 f) 0 {n = q} (omega (arith, length-tab 17 f)))))

  -- and runs a part there
  pub picked_runs : (js : List Job) (q i : ℕ) → get_or (picked c js) q 0 ≡ suc i → (i < c.n) × Runs c.homes js q i
  picked_runs js q i e = pick_runs c.homes c.rank c.top c.n js q i (picked_pick js q i e).1

  -- the row that a processor runs is one of the chart's, or none
  pub picked_row : (js : List Job) (q : ℕ) → get_or (picked c js) q 0 ≤ c.n
  picked_row js q = go (get_or (picked c js) q 0) refl
    where
      go : (row : ℕ) → get_or (picked c js) q 0 ≡ row → row ≤ c.n
      go zero e = omega arith
      go (suc i) e = (picked_runs js q i e).0

  -- so it is one of 64, or none
  pub picked-le : (js : List Job) → c.n ≤ 64 → (q : ℕ) → get_or (picked c js) q 0 ≤ 64
  picked-le js few q = omega (arith, picked_row js q)
