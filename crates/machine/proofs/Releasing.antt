-- The releases of a tick, row by row, and the place that the arrivals come to.
use Prim.Native.Nat.{ℕ, zero, suc, ◌+◌, ◌-◌, ◌*◌, ◌≤◌, ◌<◌}
use mathlib.Core.Path.{◌≡◌, refl, sym, ◌∙◌, ap}
use mathlib.Core.Bool.{Bool, true, false, cond, ◌&&◌}
use mathlib.Core.List.{List, ◌++◌}
use Rattle.std.specs.Prelude.{Option, Some, None, is_some}
use mathlib.Core.Logic.{dite}
use native.Mathlib.Omega.{arith}
use native.Mathlib.Numerals.{add-one}
use native.Mathlib.Nat.{add-zero}
use native.Mathlib.Decide.{dec_lt, ℕ_discrete}
use borrow.Author.Count.{below_more}
use borrow.Author.Tests.{lt-ltb, le-ltb, ne_eqb}
use mir.Val.{bool_byte}
use lib.Dec.{ltb}
use lib.ListN.{length, get_or, set, drop, replicate, length-set, length-drop, length-replicate, get_or-replicate}
use lib.Seq.{get_or-set_same, get_or-set_other, set-get_or, get_or-drop, ext_get_or}
use Rattle.lists.specs.Tab.{tab, filled}
use Rattle.lists.proofs.First.{first_is, first_none, first-le}
use Rattle.arrivals.specs.declared.Arrival.{Arrival}
use Rattle.arrivals.specs.Arrival.{arrival_at, lens_of, is_of, brings}
use Rattle.arrivals.specs.Seek.{Seek}
use Rattle.arrivals.proofs.Seeking.{seek_comes, seek_next, seek_tick}
use Rattle.chain.specs.declared.Job.{Job}
use Rattle.chain.specs.Job.{no_job, job_at}
use Rattle.chain.specs.Release.{released, late, due_of}
use Rattle.chain.specs.Good.{GoodBounds, GoodJob, Small}
use Rattle.chain.proofs.Before.{released_before, late_before}
use Rattle.jobs.specs.Numbers.{job_in, jobs_in}
use Rattle.jobs.proofs.Laws.{length-jobs, jobs_at_lem}
use Rattle.machine.specs.Tick.{Arrivals, releases, late_row}
use Rattle.machine.specs.Good.{Dues, Held, Coming}
use Rattle.machine.proofs.Served.{get_or-next, write_next}

-- what the arrival at place `at` brings, if it is the one of row i at tick t
abbrev pub arrives : List Arrival → ℕ → ℕ → ℕ → Option (List ℕ)
arrives xs i t at = cond (ltb at (length xs) && is_of xs i t at) (Some (lens_of (arrival_at xs at))) None

-- whether it is
whether_of : (b : Bool) (ls : List ℕ) → is_some (cond b (Some ls) None) ≡ b
whether_of true ls = refl
whether_of false ls = refl

counted_as : (b : Bool) → bool_byte b ≡ cond b 1 0
counted_as true = refl
counted_as false = refl

-- the first late row is at most n
pub late-le : (n : ℕ) (bounds : List ℕ) (ar : Arrivals) (t : ℕ) (js : List Job) → late_row n bounds ar t js ≤ n
unfolding late_row
late-le n bounds ar t js = first-le n (λ i. late bounds i t (job_at js i) (ar i t))

-- the column stays that of the next releases when row i gets another job
dues_set : (n : ℕ) (bounds : List ℕ) (js : List Job) (dues : List ℕ) → n ≤ length js → n ≤ length dues → Dues n bounds js dues → (i : ℕ) (x : Job) → Dues n bounds (set js i x) (set dues i (due_of bounds i x))
dues_set n bounds js dues l m h i x k c =
    dite (ℕ_discrete k i)
    (λ e. rw (e, get_or-set_same dues i (due_of bounds i x) 0 (omega arith), get_or-set_same js i x no_job (omega arith)))
    (λ e. rw (get_or-set_other dues i k (due_of bounds i x) 0 e, get_or-set_other js i k x no_job e) (h k c))

module _ (bounds : List ℕ) (xs : List Arrival) (t : ℕ) (start : List ℕ) where
  -- row k's job once the releases of the tick are in, and whether one comes too early
  abbrev after : ℕ → Job
  after k = released bounds k t (job_at (jobs_in start) k) (brings xs k t)

  abbrev behind : ℕ → Bool
  behind k = late bounds k t (job_at (jobs_in start) k) (brings xs k t)

  -- the first i of n rows have their releases, none of them too early, and the arrivals have come to row i
  pub record WentOn (n i : ℕ) (flat dues : List ℕ) (at : ℕ) : Type 0 where
    pub whole : length flat ≡ 576
    pub column : length dues ≡ 64
    pub jobs : jobs_in flat ≡ tab i after ++ drop i (jobs_in start)
    pub dues_are : Dues n bounds (jobs_in flat) dues
    pub seek : Seek xs at (t * 64 + suc i)
    pub on_time : (k : ℕ) → k < i → behind k ≡ false

module _ {n next t : ℕ} {bounds start dues₀ : List ℕ} {xs : List Arrival} (held : Held n bounds t start dues₀) (coming : Coming n xs next t) where
  -- before the first row nothing has changed
  pub started : WentOn bounds xs t start n 0 start dues₀ next
  unfolding tab
  started = record { whole = held.whole; column = held.column; jobs = refl; dues_are = held.dues_are; seek = coming.seek; on_time = λ k h. absurd (omega arith) }

  module _ {i at : ℕ} {flat dues : List ℕ} (w : WentOn bounds xs t start n i flat dues at) (h : i < n) where
    -- row i's job is as it was before the tick
    waits : job_in flat i ≡ job_at (jobs_in start) i
    waits = sym (jobs_at_lem flat i (omega (arith, held.few))) ∙ get_or-next (after bounds xs t start) (jobs_in start) i (jobs_in flat) w.jobs no_job

    -- so it is good
    pub good_here : GoodJob (job_in flat i) × Small t (job_in flat i)
    good_here = rw waits (held.good i h)

    -- and its release has what it asks for
    pub asked : t < 1000000 → GoodBounds bounds → (i < 64) × (t < 1000000) × GoodBounds bounds × GoodJob (job_in flat i) × ((job_in flat i).ended < 4294967294)
    asked early good = (omega (arith, held.few, h), early, good, good_here.0, omega (arith, early, good_here.1.ended))

    module _ (came : Option (List ℕ)) (here : came ≡ arrives xs i t at) where
      -- it is what the arrival of the row brings
      brought : came ≡ brings xs i t
      brought = here ∙ seek_comes n _ _ _ _ xs coming.good held.few at i t (omega (arith, held.few)) w.seek

      -- and is late where the row is
      late_here : late bounds i t (job_in flat i) came ≡ behind bounds xs t start i
      late_here = rw (waits, brought)

      -- the row is the first with a release that comes too early
      pub is_late_lem : true ≡ late bounds i t (job_in flat i) came → i ≡ late_row n bounds (brings xs) t (jobs_in start)
      unfolding late_row
      is_late_lem l = sym (first_is n (behind bounds xs t start) i h w.on_time (sym (l ∙ late_here)))

      -- which is what an error tells
      pub tells : (row : ℕ) → (row ≡ i) × (late bounds i t (job_in flat i) came ≡ true) → (row ≡ late_row n bounds (brings xs) t (jobs_in start)) × (row < n)
      tells row e = (e.0 ∙ is_late_lem (sym e.1), omega (arith, e.0, h))

      -- whether one came is whether the arrival there is the row's
      whether : is_some came ≡ (ltb at (length xs) && is_of xs i t at)
      whether = ap is_some here ∙ whether_of _ _

      -- or there is one row more
      pub goes_on : (flat₁ dues₁ : List ℕ) → length flat₁ ≡ 576 → jobs_in flat₁ ≡ set (jobs_in flat) i (released bounds i t (job_in flat i) came) → dues₁ ≡ set dues i (due_of bounds i (released bounds i t (job_in flat i) came)) → false ≡ late bounds i t (job_in flat i) came → WentOn bounds xs t start n (i + 1) flat₁ dues₁ (at + bool_byte (is_some came))
      goes_on flat₁ dues₁ size e f l =
          let x : Job = released bounds i t (job_in flat i) came in
          record {
            whole = size;
            column = rw f (simp length-set w.column);
            jobs = e ∙ write_next (after bounds xs t start) (jobs_in start) i (jobs_in flat) w.jobs no_job x (omega (arith, held.few, length-jobs start)) (rw (waits, brought));
            dues_are = rw (e, f) (dues_set n bounds (jobs_in flat) dues (omega (arith, held.few, length-jobs flat)) (omega (arith, held.few, w.column)) w.dues_are i x);
            seek = rw (add-one i, counted_as, whether) (seek_next n _ _ _ _ xs coming.good held.few at i t (omega (arith, held.few)) w.seek);
            on_time = below_more (λ k. behind bounds xs t start k ≡ false) i w.on_time (sym (l ∙ late_here));
          }

    -- which stays as it is, where nothing comes and its next release is not due yet
    pub stays : None ≡ arrives xs i t at → t < get_or dues i 0 → WentOn bounds xs t start n (i + 1) flat dues at
    stays here l =
        let x = jobs_at_lem flat i (omega (arith, held.few)) in
        let d : t < due_of bounds i (job_in flat i) = rw (w.dues_are i h, x) at l in
        let same = released_before bounds i t (job_in flat i) d in
        rw (add-zero at)
        at (goes_on None here flat dues w.whole
        (sym (set-get_or (jobs_in flat) i no_job) ∙ rw (same, x))
        (sym (set-get_or dues i 0) ∙ rw (same, w.dues_are i h, x))
        (sym (late_before bounds i t (job_in flat i) d)))

  -- where none is due and no arrival comes, all stay as they are
  pub all_stay : ((i : ℕ) → i < n → t < get_or dues₀ i 0) → (next < length xs → t < (arrival_at xs next).tick) → (i : ℕ) → i ≤ n → WentOn bounds xs t start n i start dues₀ next
  unfolding is_of
  all_stay due ahead zero h = started
  all_stay due ahead (suc i) h = rw (add-one i) at (stays (all_stay due ahead i (omega arith)) (omega arith) none_comes (due i (omega arith)))
    where
      none_comes : None ≡ arrives xs i t next
      none_comes =
          dite (dec_lt next (length xs))
          (λ l. rw (ne_eqb (arrival_at xs next).tick t (λ e. omega (arith, ahead l)), lt-ltb next (length xs) l))
          (λ l. rw (le-ltb next (length xs) (omega arith)))

  -- all rows have their releases
  pub all_in : {flat dues : List ℕ} {at : ℕ} → WentOn bounds xs t start n n flat dues at →
      (late_row n bounds (brings xs) t (jobs_in start) ≡ n) × (jobs_in flat ≡ releases n bounds (brings xs) t (jobs_in start)) × Dues n bounds (jobs_in flat) dues × Coming n xs at (suc t)
  unfolding late_row releases filled
  all_in {at = at} w = (
    first_none n (behind bounds xs t start) w.on_time,
    w.jobs ∙ ap (λ (ys : List Job). tab n (after bounds xs t start) ++ ys) none_past,
    w.dues_are,
    record { periods = _; c1s = _; secs = _; c2s = _; good = coming.good; few = coming.few; seek = seek_tick n _ _ _ _ xs coming.good held.few at t w.seek },
  )
    where
      none_past : drop n (jobs_in start) ≡ replicate (64 - n) no_job
      none_past =
          let size : length (drop n (jobs_in start)) ≡ 64 - n = omega (arith, length-drop n (jobs_in start), length-jobs start) in
          ext_get_or no_job (drop n (jobs_in start)) (replicate (64 - n) no_job) (size ∙ sym (length-replicate (64 - n) no_job))
          (λ k l.
          get_or-drop n (jobs_in start) k no_job ∙ jobs_at_lem start (n + k) (omega arith) ∙ held.past (n + k) (omega arith) (omega arith)
          ∙ sym (get_or-replicate (64 - n) k no_job no_job (omega arith)))
