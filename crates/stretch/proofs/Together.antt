-- A stretch: what its functions found is what the ticks do one by one.
use Prim.Native.Nat.{ℕ, zero, suc, ◌+◌, ◌≤◌, ◌<◌}
use mathlib.Core.Path.{◌≡◌, refl, sym, ◌∙◌, ap}
use mathlib.Core.List.{List}
use mathlib.Core.Logic.{dite}
use native.Mathlib.Omega.{arith}
use native.Mathlib.Decide.{dec_lt}
use native.Mathlib.Numerals.{add-one}
use lib.ListN.{get_or, length}
use Rattle.lists.specs.Tab.{tab, filled}
use Rattle.lists.proofs.Tab.{length-tab, get_or-tab, tab_filled, get_or-filled, get_or-rest}
use Rattle.chain.specs.declared.Place.TheVariants.{Running}
use Rattle.chain.specs.declared.Job.{Job}
use Rattle.chain.specs.Job.{no_job, job_at}
use Rattle.chain.specs.Release.{released, due_of}
use Rattle.chain.specs.Good.{GoodJob, Lasts}
use Rattle.chain.specs.Unit.{push}
use Rattle.jobs.specs.Numbers.{job_in, jobs_in}
use Rattle.jobs.proofs.Laws.{jobs_at_lem}
use Rattle.picks.specs.Pick.{pick}
use Rattle.picks.proofs.Picked.{Runs}
use Rattle.arrivals.specs.declared.Arrival.{Arrival}
use Rattle.arrivals.specs.Arrival.{arrival_at, brings}
use Rattle.machine.specs.declared.Chart.{Chart}
use Rattle.machine.specs.Tick.{Arrivals, serve_at, serve, byte_of, noted, noted_to, releases, late_row, picked, bytes}
use Rattle.machine.specs.Good.{GoodChart, GoodJobs, Dues, Coming}
use Rattle.machine.proofs.Keep.{good_releases, all_good, picked_runs, picked-le}
use Rattle.machine.proofs.Releasing.{late-le}
use Rattle.stretch.specs.Stretch.{steps_from, worst_from, Stretch}
use Rattle.stretch.specs.Push.{Goes, Ready, Picks, push_row_at, push_row, push_all}
use Rattle.stretch.proofs.Arriving.{coming_on, none_between}
use Rattle.stretch.proofs.Running.{push_picked}
use Rattle.stretch.proofs.Pushing.{Calm, stretch_jobs, stretch_timely, stretch_worst, stretch_bytes}

-- no release comes too early where the row that does is not below n
pub on_time : (n : ℕ) (bounds : List ℕ) (ar : Arrivals) (t : ℕ) (js : List Job) (late : ℕ) → late ≡ late_row n bounds ar t js → n ≤ late → late ≡ n
on_time n bounds ar t js late e h = omega (arith, late-le n bounds ar t js)

-- the jobs once the releases of tick t are in are good, and what is picked of them is one of 64 rows
module _ (c : Chart) (ar : Arrivals) (t : ℕ) (js : List Job) (flat : List ℕ) (good : GoodChart c) (jobs_good : GoodJobs c.n t js) (h : t ≤ 1000000) (e : jobs_in flat ≡ releases c.n c.bounds ar t js) where
  pub places_good : (i : ℕ) → i < c.n → GoodJob (job_at (jobs_in flat) i)
  places_good i l = rw e (good_releases c.n c.bounds ar t js jobs_good h i l).0

  pub all_places_good : (i : ℕ) → i < 64 → GoodJob (job_in flat i)
  all_places_good i l = rw (sym (jobs_at_lem flat i l), e) (all_good c.n c.bounds ar t js jobs_good h i l)

  pub rows-le : (rows : List ℕ) → rows ≡ tab 17 (pick c.homes c.rank c.top c.n (jobs_in flat)) → (q : ℕ) → get_or rows q 0 ≤ 64
  unfolding picked
  rows-le rows d q = rw d (picked-le c (jobs_in flat) good.homed.few q)

-- the numbers hold the jobs once the releases of tick t are in, and the rows are those that the processors pick then
pub record Released (c : Chart) (xs : List Arrival) (t : ℕ) (js : List Job) (flat dues rows : List ℕ) (next : ℕ) : Type 0 where
  pub good : GoodChart c
  pub jobs_good : GoodJobs c.n t js
  pub jobs_are : jobs_in flat ≡ releases c.n c.bounds (brings xs) t js
  pub dues_are : Dues c.n c.bounds (jobs_in flat) dues
  pub coming : Coming c.n xs next (suc t)
  pub rows_are : rows ≡ tab 17 (pick c.homes c.rank c.top c.n (jobs_in flat))

-- in k ticks behind tick t, before tick e, nothing comes, falls due or ends
pub record Rests (c : Chart) (xs : List Arrival) (t e : ℕ) (flat dues rows : List ℕ) (next k : ℕ) : Type 0 where
  pub short : t + k < e
  pub none_comes : 0 < k → next < length xs → t + suc k ≤ (arrival_at xs next).tick
  pub still : 0 < k → (i : ℕ) → i < c.n → t + k < get_or dues i 0
  pub go_on : 0 < k → (q i : ℕ) → q < 17 → get_or rows q 0 ≡ suc i → Goes (get_or c.rank i 0) (get_or c.top i 0) (suc k) (job_in flat i) (job_in flat i).place

-- both, as the functions say them
pub were_released : {c : Chart} {xs : List Arrival} {t late next : ℕ} {js : List Job} {flat dues rows : List ℕ} → GoodChart c → GoodJobs c.n t js
    → (late ≡ c.n) × (jobs_in flat ≡ releases c.n c.bounds (brings xs) t js) × Dues c.n c.bounds (jobs_in flat) dues × Coming c.n xs next (suc t)
    → rows ≡ tab 17 (pick c.homes c.rank c.top c.n (jobs_in flat)) → Released c xs t js flat dues rows next
were_released good jobs_good given rows_are =
    record { good = good; jobs_good = jobs_good; jobs_are = given.1; dues_are = given.2; coming = given.3; rows_are = rows_are }

module _ (c : Chart) (xs : List Arrival) (t e : ℕ) (js : List Job) (flat dues rows : List ℕ) (next : ℕ) (le : e ≤ 1000000) (r : Released c xs t js flat dues rows next) where
  -- the jobs once the releases are in
  abbrev there : List Job
  there = releases c.n c.bounds (brings xs) t js

  few : c.n ≤ 64
  few = r.good.homed.few

  -- the numbers hold them,
  job_there : (i : ℕ) → i < 64 → job_in flat i ≡ job_at there i
  job_there i h = sym (jobs_at_lem flat i h) ∙ ap (λ ks. job_at ks i) r.jobs_are

  -- and the rows are those picked of them
  rows_there : rows ≡ picked c there
  unfolding picked
  rows_there = r.rows_are ∙ ap (λ ks. tab 17 (pick c.homes c.rank c.top c.n ks)) r.jobs_are

  -- a row past n is idle
  past : (i : ℕ) → c.n ≤ i → i < 64 → job_in flat i ≡ no_job
  unfolding releases
  past i a b = job_there i b ∙ get_or-rest 64 no_job (λ k. released c.bounds k t (job_at js k) (brings xs k t)) c.n i no_job a b

  -- a picked row runs a part on its processor
  row_runs : (q i : ℕ) → get_or rows q 0 ≡ suc i → (i < c.n) × Runs c.homes (jobs_in flat) q i
  unfolding picked
  row_runs q i e = picked_runs c (jobs_in flat) q i (sym (ap (λ l. get_or l q 0) r.rows_are) ∙ e)

  module _ (k : ℕ) (s : Rests c xs t e flat dues rows next k) where
    -- what a picked row runs lasts for k ticks,
    lasts : (i q j l : ℕ) → q < 17 → get_or rows q 0 ≡ suc i → (job_in flat i).place ≡ Running j l → k ≤ l
    lasts i q j l h p d =
        dite (dec_lt 0 k)
        (λ b.
        let g : Goes (get_or c.rank i 0) (get_or c.top i 0) (suc k) (job_in flat i) (Running j l) = rw d at (s.go_on b q i h p) in
        omega (arith, g.0))
        (λ b. omega arith)

    -- and a row whose part does can run k units
    good_there : (i : ℕ) → i < c.n → Lasts k (job_in flat i).place → Ready t k (job_in flat i)
    good_there i h l =
        let g = good_releases c.n c.bounds (brings xs) t js r.jobs_good (omega (arith, s.short)) i h in
        let d = job_there i (omega (arith, few)) in
        record { good = rw d g.0; lasts = l; ended = rw d (omega (arith, g.1, s.short)); ran = rw d g.2 }

    -- each picked row runs a part on its processor, with k ticks of it left
    pub picks : Picks rows c.homes t k (jobs_in flat)
    picks q i h p =
        let (l, w) = row_runs q i p in
        let d = jobs_at_lem flat i (omega (arith, few)) in
        let place : (job_in flat i).place ≡ Running w.part w.left = sym (ap (λ (x : Job). x.place) d) ∙ w.place_is in (
          omega (arith, few),
          record {
            part = w.part;
            left = w.left;
            place_is = w.place_is;
            home_is = w.home_is;
            ready = rw d (good_there i l (λ j m e. lasts i q j m h p e));
          },
        )

    -- so it is ready
    pub ready : (q i : ℕ) → q < 17 → get_or rows q 0 ≡ suc i → (i < 64) × Ready t k (job_in flat i)
    ready q i h p =
        let (l, w) = picks q i h p in
        (l, rw (jobs_at_lem flat i l) at w.ready)

    -- the place in the arrivals after the stretch
    pub after : Coming c.n xs next (t + suc k)
    after =
        dite (dec_lt 0 k)
        (λ b. coming_on c.n xs next (suc t) (t + suc k) r.coming (omega arith) (s.none_comes b))
        (λ b.
        let z : t + suc k ≡ suc t = omega arith in
        rw z r.coming)

    -- the ticks behind the first are calm
    calm : Calm c (brings xs) t k there (picked c there)
    calm =
        record {
          none_comes = λ i u l a b. none_between c.n xs next (suc t) (t + suc k) r.coming few after i u l (omega arith) (omega arith);
          still = λ b i l. rw (sym (ap (λ ks. due_of c.bounds i (job_at ks i)) r.jobs_are), sym (r.dues_are i l)) (s.still b i l);
          go_on = λ b q i h p.
              let d = job_there i (omega (arith, few, (row_runs q i (rw rows_there p)).0)) in
              rw (sym d) (s.go_on b q i h (rw rows_there p));
          marked = λ i l. (good_releases c.n c.bounds (brings xs) t js r.jobs_good (omega (arith, s.short)) i l).3;
        }

    -- a row past n is as it was
    abbrev after_at : ℕ → Job
    after_at i = serve rows c.bounds c.homes (t + k) i (push_row rows c.homes t k i (job_in flat i))

    -- so the jobs are those of the ticks one by one
    jobs_after : (flat' : List ℕ) → jobs_in flat' ≡ tab 64 after_at → jobs_in flat' ≡ steps_from c (brings xs) t (suc k) js
    unfolding serve_at push_row_at
    jobs_after flat' e =
        e
        ∙ tab_filled 64 no_job c.n after_at (λ i. serve (picked c there) c.bounds c.homes (t + k) i (push_row (picked c there) c.homes t k i (job_at there i))) few
        (λ i l. rw (rows_there, job_there i (omega (arith, few))))
        (λ i a b. rw (past i a b))
        ∙ sym (stretch_jobs c (brings xs) t k js calm)

    -- a picked row is pushed in the one list as in the other, so its response is the same
    noted_after : (q : ℕ) (worst : List ℕ) → noted c.bounds (t + k) (tab 64 (λ i. push t k (job_in flat i))) (get_or rows q 0) worst ≡ noted c.bounds (t + k) (push_all rows c.homes c.n t k there) (get_or rows q 0) worst
    unfolding noted push_all
    noted_after q worst = go (get_or rows q 0) refl
      where
        at : (i : ℕ) → get_or rows q 0 ≡ suc i → job_at (tab 64 (λ i. push t k (job_in flat i))) i ≡ job_at (filled 64 no_job c.n (λ i. push_row rows c.homes t k i (job_at there i))) i
        at i p =
            let (l, w) = row_runs q i p in
            let b : i < 64 = omega (arith, few) in
            let place : (job_in flat i).place ≡ Running w.part w.left = sym (ap (λ (x : Job). x.place) (jobs_at_lem flat i b)) ∙ w.place_is in
            get_or-tab 64 (λ i. push t k (job_in flat i)) i no_job b
            ∙ push_picked rows c.bounds c.homes t k q i w.part w.left (job_in flat i) place w.home_is p
            ∙ ap (push_row rows c.homes t k i) (job_there i b)
            ∙ sym (get_or-filled 64 no_job (λ i. push_row rows c.homes t k i (job_at there i)) c.n i no_job l)

        go : (row : ℕ) → get_or rows q 0 ≡ row → noted c.bounds (t + k) (tab 64 (λ i. push t k (job_in flat i))) row worst ≡ noted c.bounds (t + k) (filled 64 no_job c.n (λ i. push_row rows c.homes t k i (job_at there i))) row worst
        go zero p = refl
        go (suc i) p = rw (at i p)

    -- and so are all worst responses
    worst_after : (worst : List ℕ) → noted_to c.bounds (t + k) (tab 64 (λ i. push t k (job_in flat i))) rows c.m worst ≡ worst_from c (brings xs) t (suc k) js worst
    unfolding noted_to
    worst_after worst = go c.m ∙ rw rows_there (sym (stretch_worst c (brings xs) t k js calm worst))
      where
        go : (m : ℕ) → noted_to c.bounds (t + k) (tab 64 (λ i. push t k (job_in flat i))) rows m worst ≡ noted_to c.bounds (t + k) (push_all rows c.homes c.n t k there) rows m worst
        go zero = refl
        go (suc m) = rw (go m) (noted_after (suc m) _)

    -- the lane has the bytes of the first tick
    bytes_after : (lane : List ℕ) (size : ℕ) → lane ≡ tab size (λ q. byte_of (jobs_in flat) (get_or rows (suc q) 0)) → length lane ≡ c.m → lane ≡ bytes c there
    unfolding bytes
    bytes_after lane size e l =
        let m : size ≡ c.m = sym (length-tab size (λ q. byte_of (jobs_in flat) (get_or rows (suc q) 0))) ∙ sym (ap length e) ∙ l in
        e ∙ rw (m, rows_there, r.jobs_are)

    -- so the ticks of the stretch are those of the machine
    pub stretched : (worst flat' worst' lane : List ℕ) (size : ℕ) → jobs_in flat' ≡ tab 64 after_at → worst' ≡ noted_to c.bounds (t + k) (tab 64 (λ i. push t k (job_in flat i))) rows c.m worst
        → lane ≡ tab size (λ q. byte_of (jobs_in flat) (get_or rows (suc q) 0)) → Stretch c xs t js worst (k + 1) (jobs_in flat') worst' lane
    stretched worst flat' worst' lane size a b d =
        rw (add-one k)
        record {
          jobs = jobs_after flat' a;
          timely = λ j h l. stretch_timely c (brings xs) t k js calm j h (omega arith);
          noted = b ∙ worst_after worst;
          shown = λ l j h. bytes_after lane size d l ∙ sym (stretch_bytes c (brings xs) t k js calm j (omega arith));
        }

    -- and the next releases are known again
    pub dues_after : (flat' dues' : List ℕ) → ((i : ℕ) → i < 64 → get_or dues i 0 ≡ due_of c.bounds i (job_in flat i) → get_or dues' i 0 ≡ due_of c.bounds i (job_in flat' i)) → Dues c.n c.bounds (jobs_in flat') dues'
    dues_after flat' dues' h i l =
        let b : i < 64 = omega (arith, few) in
        rw (jobs_at_lem flat' i b) (h i b (r.dues_are i l ∙ ap (due_of c.bounds i) (jobs_at_lem flat i b)))
