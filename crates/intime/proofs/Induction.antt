-- The machine is in time at every tick: by induction on the ticks, from the empty start.
use Prim.Native.Nat.{ℕ, zero, suc, ◌+◌, ◌-◌, ◌≤◌, ◌<◌}
use mathlib.Core.Path.{◌≡◌, refl, sym, ap, subst}
use native.Mathlib.Nat.{add-suc, add-zero}
use native.Mathlib.Decide.{dec_le}
use native.Mathlib.Omega.{arith}
use Rattle.lists.proofs.Tab.{get_or-blank}
use Rattle.busy.proofs.Window.{by_strong}
use Rattle.chain.specs.declared.Place.{Place}
use Rattle.chain.specs.declared.Place.TheVariants.{Idle, Waiting, Running}
use Rattle.chain.specs.declared.Job.{Job}
use Rattle.chain.specs.Job.{no_job}
use Rattle.chain.specs.Release.{off}
use Rattle.chain.proofs.Offsets.{off-suc}
use Rattle.chain.proofs.Row.{left, left_own, new, IsRunning, Fine, Soon}
use Rattle.machine.specs.Tick.{jobs_at}
use Rattle.intime.proofs.Releases.{Release, is_release}
use Rattle.intime.proofs.System.{System, count, job}
use Rattle.intime.proofs.Ticks.{Ok, falls, mid_left, next_fine, next_stacked}
use Rattle.intime.proofs.Blockers.{finished}

module _ (s : System) where
  -- before tick 0 no task has arrived
  start_is : (i : ℕ) → job s 0 i ≡ no_job
  unfolding job jobs_at
  start_is i = get_or-blank 64 no_job i

  -- all are idle
  start_ok : Ok s 0
  start_ok =
      record {
        fine = λ i hi. subst (λ (x : Job). Fine s.chart.bounds i (s.ar i) 0 x x.place) (sym (start_is i))
            (record { unbegun = refl; last = λ b ks e lt. absurd (omega arith); all_past = λ a ls e lt. absurd (omega arith) });
        soon = λ i hi. subst (λ (x : Job). Soon s.chart.bounds i (s.ar i) 0 x.arrived x.place) (sym (start_is i)) tt;
        stacked =
            record {
              above = λ q i d hi hd x y b lt. absurd (unbegun d b);
              one = λ q i d hi hd x y b e. absurd (unbegun d b);
            };
      }
    where
      unbegun : (d : ℕ) → 1 ≤ (job s 0 d).begun → ⊥
      unbegun d b = omega (arith, b, ap (λ (x : Job). x.begun) (start_is d))

  -- what is done stays done while nothing of it is released
  stays : (n : ℕ) → ((t : ℕ) → t < n → Ok s t) → (k e u m : ℕ) → k < count s → e < 3 → u + m ≤ n → left (job s u k).place e ≡ 0
      → ((t : ℕ) → u ≤ t → t < n → new s.chart.bounds k (s.ar k) e t ≡ 0) → left (job s (u + m) k).place e ≡ 0
  stays n oks k e u zero hk he le z f = rw (add-zero u) z
  stays n oks k e u (suc m) hk he le z f =
      let ih = stays n oks k e u m hk he (omega arith) z f in
      let ok = oks (u + m) (omega arith) in
      rw (add-suc u m) (omega (arith, falls s (u + m) ok k e hk, mid_left s (u + m) ok k e hk he, f (u + m) (omega arith) (omega arith)))

  -- a running part is released no second time before tick n: its job is of the last arrival
  none_new : (n k j l t : ℕ) → IsRunning s.chart.bounds k (s.ar k) n (job s n k) j l → (job s n k).arrived + off s.chart.bounds k j < t → t < n
      → new s.chart.bounds k (s.ar k) j t ≡ 0
  none_new n k j l t f lo hi =
      elim (dec_le 1 (new s.chart.bounds k (s.ar k) j t)) [
        | yes p ↦
            let x = is_release s.chart.bounds k (s.ar k) j t f.inside p in
            absurd (omega (arith, x.is, f.live.last x.when x.lens x.came (omega (arith, x.is))))
        | no p ↦ omega arith
      ]

  -- a running part is within its bound at tick n, where the machine was in time before
  in_time : (n : ℕ) → ((t : ℕ) → t < n → Ok s t) → (k : ℕ) → k < count s → Fine s.chart.bounds k (s.ar k) n (job s n k) (job s n k).place
      → Soon s.chart.bounds k (s.ar k) n (job s n k).arrived (job s n k).place
  in_time n oks k hk f = go (job s n k).place refl f
    where
      end : ℕ → ℕ
      end j = (job s n k).arrived + off s.chart.bounds k (suc j)

      -- it was done within its bound, and has stayed so
      late_end : (j l : ℕ) → (job s n k).place ≡ Running j l → IsRunning s.chart.bounds k (s.ar k) n (job s n k) j l → end j ≤ n → ⊥
      late_end j l e f le =
          let r = (job s n k).arrived + off s.chart.bounds k j in
          let rel : Release s.chart.bounds k (s.ar k) r j
          = record { when = (job s n k).arrived; lens = (job s n k).lens; came = f.live.came; inside = f.inside; some-length = omega (arith, f.some_left, f.at_most); is = refl } in
          let (u, lo, hi, z) = finished s n oks k hk j r rel (omega (arith, off-suc s.chart.bounds k j)) in
          let q : u + (n - u) ≡ n = omega (arith, off-suc s.chart.bounds k j) in
          let w = stays n oks k j u (n - u) hk f.inside (omega arith) z (λ t a b. none_new n k j l t f (omega arith) b) in
          let y : left (job s n k).place j ≡ 0 = rw q at w in
          omega (arith, ap (λ (p : Place). left p j) e, left_own j l, f.some_left)

      go : (p : Place) → (job s n k).place ≡ p → Fine s.chart.bounds k (s.ar k) n (job s n k) p → Soon s.chart.bounds k (s.ar k) n (job s n k).arrived p
      go Idle e f = tt
      go (Waiting u j) e f = tt
      go (Running j l) e f = elim (dec_le (suc n) (end j)) [ yes lt ↦ lt | no nl ↦ absurd (late_end j l e f (omega arith)) ]

  -- in time before a tick, it is so after it
  next_ok : (n : ℕ) → ((t : ℕ) → t < suc n → Ok s t) → Ok s (suc n)
  next_ok n oks =
      let now = oks n (omega arith) in
      record { fine = next_fine s n now; soon = λ i hi. in_time (suc n) oks i hi (next_fine s n now i hi); stacked = next_stacked s n now }

  -- so the machine is in time at every tick
  pub always : (t : ℕ) → Ok s t
  always = by_strong (Ok s) go
    where
      go : (n : ℕ) → ((m : ℕ) → m < n → Ok s m) → Ok s n
      go zero ih = start_ok
      go (suc n) ih = next_ok n ih
