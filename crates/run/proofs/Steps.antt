-- The machine's numbers from stretch to stretch, and the trace from byte to byte.
use Prim.Native.Nat.{ℕ, ◌+◌, ◌-◌, ◌*◌, ◌≤◌, ◌<◌}
use mathlib.Core.Path.{◌≡◌, refl, sym, ap, ◌∙◌, subst}
use mathlib.Core.Bool.{Bool, true, false}
use mathlib.Core.List.{List}
use native.Mathlib.Omega.{arith}
use native.Mathlib.Nat.{zero-add, add_assoc}
use borrow.Author.Tests.{ltb-true, ltb-false, lt-ltb, le-ltb}
use lib.Dec.{ltb}
use lib.ListN.{length, get_or, get_or-replicate}
use lib.Seq.{sets}
use Rattle.lists.specs.Tab.{joined, blank}
use Rattle.lists.proofs.Tab.{get_or-blank, length-blank}
use Rattle.lists.proofs.Sets.{sets_then}
use Rattle.lists.proofs.Joined.{joined-append, joined_same}
use Rattle.chain.specs.declared.Job.{Job}
use Rattle.chain.specs.Job.{no_job, job_at}
use Rattle.chain.specs.Release.{never, due_at, due_of}
use Rattle.chain.specs.Good.{GoodJob}
use Rattle.jobs.specs.Numbers.{job_in, jobs_in}
use Rattle.jobs.proofs.Laws.{jobs_at_lem, jobs_blank}
use Rattle.arrivals.specs.declared.Arrival.{Arrival}
use Rattle.arrivals.specs.Arrival.{brings}
use Rattle.machine.specs.declared.Chart.{Chart}
use Rattle.machine.specs.Tick.{late_row, jobs_at, worst_at, late_at, bytes_at}
use Rattle.machine.specs.Good.{GoodChart, GoodJobs, Dues, Held, Coming}
use Rattle.machine.proofs.Keep.{good_at, past_at}
use Rattle.stretch.specs.Stretch.{Stretch}
use Rattle.stretch.proofs.Steps.{steps_from_lem, worst_from_lem, late_from, bytes_from}
use Rattle.run.specs.Run.{is_late, log}
use Rattle.run.specs.State.{Stands, Falls}
use Rattle.run.proofs.Window.{length-log}

module _ (c : Chart) (xs : List Arrival) where
  -- a task that has not arrived waits for no release
  none_due : (i : ℕ) → i < 64 → get_or (blank 64 never) i 0 ≡ due_of c.bounds i no_job
  unfolding blank due_at
  none_due i h = get_or-replicate 64 i never 0 h

  -- the empty start
  pub starts : c.n ≤ 64 → Coming c.n xs 0 0 → Stands c xs 0 (blank 576 0) (blank 64 never) (blank 192 0) 0
  unfolding jobs_at worst_at
  starts few come =
      record { whole = length-blank 576 0; column = length-blank 64 never; jobs = jobs_blank; dues_are = dues; noted = refl; coming = come; clear = λ e h. absurd (omega arith) }
    where
      none : (i : ℕ) → job_at (jobs_in (blank 576 0)) i ≡ no_job
      none i = ap (λ (js : List Job). job_at js i) jobs_blank ∙ get_or-blank 64 no_job i

      dues : Dues c.n c.bounds (jobs_in (blank 576 0)) (blank 64 never)
      dues i l = none_due i (omega arith) ∙ sym (ap (due_of c.bounds i) (none i))

  -- some ticks more are written behind those before them
  pub shown_more : (l tr v : List ℕ) (f k ticks : ℕ) → tr ≡ sets l 0 (log c xs f k) → ((j : ℕ) → j < ticks → v ≡ bytes_at c (brings xs) (f + k + j))
      → sets tr (c.m * k) (joined ticks (λ j. v)) ≡ sets l 0 (log c xs f (k + ticks))
  unfolding log
  shown_more l tr v f k ticks e same =
      let g : ℕ → List ℕ = λ j. bytes_at c (brings xs) (f + j) in
      let inside : joined ticks (λ j. v) ≡ joined ticks (λ j. g (k + j)) = joined_same ticks (λ j. v) (λ j. g (k + j)) (λ j h. same j h ∙ ap (bytes_at c (brings xs)) (add_assoc f k j)) in
      rw (inside, joined-append k ticks g)
      (sets_then l 0 (c.m * k) (log c xs f k) (joined ticks (λ j. g (k + j))) (length-log c xs f k) e
      (ap (λ (z : ℕ). sets tr z (joined ticks (λ j. g (k + j)))) (sym (zero-add (c.m * k)))))

-- one stretch of ticks more
module _ {c : Chart} {xs : List Arrival} {t : ℕ} {flat dues worst : List ℕ} {next : ℕ} (st : Stands c xs t flat dues worst next) where
  -- what stretches ask of the numbers
  pub holds : GoodChart c → t ≤ 1000000 → Held c.n c.bounds t flat dues
  holds good h =
      record {
        few = good.homed.few;
        whole = st.whole;
        column = st.column;
        good = subst (GoodJobs c.n t) (sym st.jobs) (good_at c (brings xs) t h);
        past = λ i a b. sym (jobs_at_lem flat i b) ∙ ap (λ (js : List Job). job_at js i) st.jobs ∙ past_at c (brings xs) t i a b;
        dues_are = st.dues_are;
      }

  -- the jobs are good
  pub good_in : GoodChart c → t ≤ 1000000 → (i : ℕ) → i < c.n → GoodJob (job_in flat i)
  good_in good h i l = subst GoodJob (jobs_at_lem flat i (omega (arith, good.homed.few))) ((holds good h).good i l).0

  -- a release came too early in tick t
  pub went_off : (e row : ℕ) → t < e → (row ≡ late_row c.n c.bounds (brings xs) t (jobs_in flat)) × (row < c.n) → Falls c xs e row
  unfolding late_at
  went_off e row b led =
      let row_is : row ≡ late_at c (brings xs) t = led.0 ∙ ap (late_row c.n c.bounds (brings xs) t) st.jobs in
      record { tick = t; before = b; row = row_is; is = lt-ltb (late_at c (brings xs) t) c.n (omega (arith, row_is, led.1)); clear = st.clear }

  -- what a stretch of ticks before tick e leads to, as it is told
  module _ (e ticks at : ℕ) (flat' dues' worst' lane : List ℕ) where
    abbrev Led : Type 0
    Led =
        (late_row c.n c.bounds (brings xs) t (jobs_in flat) ≡ c.n)
        × Stretch c xs t (jobs_in flat) worst ticks (jobs_in flat') worst' lane
        × (0 < ticks) × (t + ticks ≤ e) × Dues c.n c.bounds (jobs_in flat') dues' × Coming c.n xs at (t + ticks) × (length flat' ≡ 576) × (length dues' ≡ 64)

    module _ (led : Led) where
      -- no release came too early in tick t,
      none : late_at c (brings xs) t ≡ c.n
      unfolding late_at
      none = ap (late_row c.n c.bounds (brings xs) t) (sym st.jobs) ∙ led.0

      -- so the stretch is one of the run,
      on : Stretch c xs t (jobs_at c (brings xs) t) (worst_at c (brings xs) t) ticks (jobs_in flat') worst' lane
      on = subst (λ (js : List Job). Stretch c xs t js (worst_at c (brings xs) t) ticks (jobs_in flat') worst' lane) st.jobs
          (subst (λ (w : List ℕ). Stretch c xs t (jobs_in flat) w ticks (jobs_in flat') worst' lane) st.noted led.1)

      -- none came too early in any of its ticks,
      on_time : (k : ℕ) → k < t + ticks → is_late c xs k ≡ false
      on_time k l = go (ltb k t) refl (ltb t k) refl
        where
          go : (a : Bool) → ltb k t ≡ a → (b : Bool) → ltb t k ≡ b → is_late c xs k ≡ false
          go true p b q = st.clear k (ltb-true k t p)
          go false p false q =
              let i : k ≡ t = omega (arith, ltb-false k t p, ltb-false t k q) in
              rw i (le-ltb (late_at c (brings xs) t) c.n (omega (arith, none)))
          go false p true q =
              let i : k ≡ t + (k - t) = omega (arith, ltb-true t k q) in
              let fine = late_from c (brings xs) t (k - t) ∙ on.timely (k - t) (omega (arith, ltb-true t k q)) (omega (arith, ltb-true t k q)) in
              rw i (le-ltb (late_at c (brings xs) (t + (k - t))) c.n (omega (arith, fine)))

      -- and the numbers stand behind it
      pub led_on : Stands c xs (t + ticks) flat' dues' worst' at
      led_on =
          record {
            whole = led.6;
            column = led.7;
            jobs = on.jobs ∙ sym (steps_from_lem c (brings xs) t ticks);
            dues_are = led.4;
            noted = on.noted ∙ sym (worst_from_lem c (brings xs) t ticks);
            coming = led.5;
            clear = on_time;
          }

      -- each of its ticks has the bytes of the lane
      pub led_shown : length lane ≡ c.m → (j : ℕ) → j < ticks → lane ≡ bytes_at c (brings xs) (t + j)
      led_shown w j l = on.shown w j l ∙ sym (bytes_from c (brings xs) t j)

      -- it has one tick at least, and ends by tick e
      pub led_far : (0 < ticks) × (t + ticks ≤ e)
      led_far = (led.2, led.3)
