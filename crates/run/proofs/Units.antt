-- Units run are the busy bytes of a trace over all ticks.
use Prim.Native.Nat.{ℕ, zero, suc, ◌+◌, ◌-◌, ◌≤◌, ◌<◌}
use mathlib.Core.Path.{◌≡◌, refl, sym, ◌∙◌, ap}
use mathlib.Core.Bool.{Bool, true, false, cond}
use mathlib.Core.List.{List, [], ◌∷◌}
use native.Mathlib.Omega.{arith}
use native.Mathlib.Nat.{zero-add}
use borrow.Author.Tests.{eq-eqb, ne_eqb}
use lib.ListN.{get_or}
use lib.Dec.{eqb}
use Rattle.lists.proofs.Tab.{get_or-blank}
use Rattle.chain.specs.declared.Place.{Place}
use Rattle.chain.specs.declared.Place.TheVariants.{Idle, Waiting, Running}
use Rattle.chain.specs.declared.Job.{Job}
use Rattle.chain.specs.Job.{no_job, job_at}
use Rattle.chain.specs.Good.{part_of}
use Rattle.chain.specs.Unit.{unit_of}
use Rattle.chain.proofs.Keeps.{ran_released, ran_unit}
use Rattle.picks.specs.Pick.{home}
use Rattle.arrivals.specs.declared.Arrival.{Arrival}
use Rattle.arrivals.specs.Arrival.{brings}
use Rattle.arrivals.specs.Seek.{GoodArrivals}
use Rattle.machine.specs.declared.Chart.{Chart}
use Rattle.machine.specs.Tick.{serve_at, serve, kind_of, byte_of, picked, bytes, jobs_at, released_at, bytes_at}
use Rattle.lists.specs.Total.{total}
use Rattle.machine.specs.Counts.{tally_of}
use Rattle.lists.proofs.Total.{total_ext, total-zero, total-add, total_one, total_swap}
use Rattle.machine.proofs.Keep.{picked_runs}
use Rattle.machine.proofs.Rows.{Sound}
use Rattle.machine.proofs.Ticks.{released_at_lem, served_at, sound_mid}
use Rattle.run.specs.Run.{log}
use Rattle.run.specs.Brought.{busy}
use Rattle.run.specs.Seated.{HasSeat, Seated}
use Rattle.run.proofs.Busy.{busy_one, busy_tab, busy_joined}

module _ (c : Chart) (js : List Job) where
  -- the unit that processor q, counted from 0, gives to row i
  abbrev unit : ℕ → ℕ → ℕ
  unit q i = cond (eqb (get_or (picked c js) (suc q) 0) (suc i)) 1 0

  -- none to a row that it does not pick
  unit_none : (q i : ℕ) → (get_or (picked c js) (suc q) 0 ≡ suc i → ⊥) → unit q i ≡ 0
  unit_none q i h = rw (ne_eqb _ _ h)

  -- a processor gives one unit in all where its byte is not 0
  unit_byte : (q : ℕ) → total c.n (unit q) ≡ busy (byte_of js (get_or (picked c js) (suc q) 0) ∷ [])
  unfolding busy byte_of kind_of
  unit_byte q = go (get_or (picked c js) (suc q) 0) refl
    where
      go : (row : ℕ) → get_or (picked c js) (suc q) 0 ≡ row → total c.n (unit q) ≡ busy (byte_of js row ∷ [])
      go zero e = total-zero c.n (unit q) (λ i l. unit_none q i (λ h. omega arith))
      go (suc i) e =
          let (l, r) = picked_runs c js (suc q) i e in
          let kind : kind_of (job_at js i).place ≡ suc r.part = ap kind_of r.place_is in
          total_one c.n i (unit q) l (λ k m ne. unit_none q k (λ h. ne (omega arith)))
          ∙ rw (eq-eqb _ _ e) (sym (busy_one (byte_of js (suc i)) (omega arith)))

  -- the part that a sound job runs has a processor
  seat : (secs : List ℕ) → Seated c secs → (i j l : ℕ) → i < c.n → Sound (get_or secs i 0) (job_at js i) → (job_at js i).place ≡ Running j l → HasSeat c i j
  seat secs seated i j l h s e = go j (omega (arith, s.good.part, ap part_of e)) (rw e at s.long)
    where
      go : (j : ℕ) → j < 3 → 1 ≤ get_or (job_at js i).lens j 0 → HasSeat c i j
      go zero k p = seated.first i h
      go (suc zero) k p = seated.section i h (omega (arith, s.section))
      go (suc (suc zero)) k p = seated.second i h
      go (suc (suc (suc j))) k p = absurd (omega arith)

  -- a row gets at most one unit, from the processor of the part that it runs
  unit_row : (t i : ℕ) → ((j l : ℕ) → (job_at js i).place ≡ Running j l → HasSeat c i j) →
      (serve (picked c js) c.bounds c.homes t i (job_at js i)).ran ≡ (job_at js i).ran + total c.m (λ q. unit q i)
  unfolding serve_at kind_of
  unit_row t i seats = go (job_at js i).place refl
    where
      x : Job
      x = job_at js i

      -- a row that runs nothing is not picked
      rests : kind_of x.place ≡ 0 → total c.m (λ q. unit q i) ≡ 0
      rests z = total-zero c.m (λ q. unit q i) (λ q h. unit_none q i (λ e. omega (arith, ap kind_of (picked_runs c js (suc q) i e).1.place_is)))

      -- and one that runs a part is picked by that part's processor alone
      one : (j l q : ℕ) → x.place ≡ Running j l → home c.homes i j ≡ suc q → q < c.m → total c.m (λ p. unit p i) ≡ unit q i
      one j l q e at m =
          total_one c.m q (λ p. unit p i) m
          (λ p k ne. unit_none p i (λ h.
          let r = (picked_runs c js (suc p) i h).1 in
          ne (omega (arith, at, ap (home c.homes i) (ap part_of (sym e ∙ r.place_is)), r.home_is))))

      gets : (b : Bool) (j l : ℕ) → (cond b (unit_of c.bounds i t x j l) x).ran ≡ x.ran + cond b 1 0
      gets true j l = ran_unit c.bounds i t x j l
      gets false j l = omega arith

      go : (p : Place) → x.place ≡ p → (serve_at (picked c js) c.bounds c.homes t i x p).ran ≡ x.ran + total c.m (λ q. unit q i)
      go Idle e = omega (arith, rests (ap kind_of e))
      go (Waiting u j) e = omega (arith, rests (ap kind_of e))
      go (Running j l) e =
          let (a, b) = seats j l e in
          let at : home c.homes i j ≡ suc (home c.homes i j - 1) = omega arith in
          let got : unit (home c.homes i j - 1) i ≡ total c.m (λ q. unit q i) = sym (one j l (home c.homes i j - 1) e at (omega arith)) in
          gets (eqb (get_or (picked c js) (home c.homes i j) 0) (suc i)) j l
          ∙ ap (λ (p : ℕ). x.ran + cond (eqb (get_or (picked c js) p 0) (suc i)) 1 0) at
          ∙ ap (λ (k : ℕ). x.ran + k) got

  -- so the rows run as many units as processors are busy
  unit_tick : (t : ℕ) → ((i j l : ℕ) → i < c.n → (job_at js i).place ≡ Running j l → HasSeat c i j) →
      total c.n (λ i. (serve (picked c js) c.bounds c.homes t i (job_at js i)).ran) ≡ total c.n (λ i. (job_at js i).ran) + busy (bytes c js)
  unfolding bytes
  unit_tick t seats =
      total_ext c.n _ _ (λ i h. unit_row t i (λ j l. seats i j l h))
      ∙ total-add c.n (λ i. (job_at js i).ran) (λ i. total c.m (λ q. unit q i))
      ∙ ap (λ (k : ℕ). total c.n (λ i. (job_at js i).ran) + k)
      (total_swap c.n c.m (λ i q. unit q i)
      ∙ total_ext c.m _ _ (λ q h. unit_byte q)
      ∙ sym (busy_tab c.m (λ k. byte_of js (get_or (picked c js) (suc k) 0))))

module _ (c : Chart) (periods c1s secs c2s : List ℕ) (xs : List Arrival) (good : GoodArrivals c.n periods c1s secs c2s xs) (seated : Seated c secs) where
  -- so it is of all ticks before e
  units_busy : (e : ℕ) → (tally_of c.n (jobs_at c (brings xs) e)).run ≡ total e (λ t. busy (bytes_at c (brings xs) t))
  unfolding tally_of total jobs_at bytes_at
  units_busy zero = total-zero c.n _ (λ i h. ap (λ (x : Job). x.ran) (get_or-blank 64 no_job i))
  units_busy (suc e) =
      let js : List Job = released_at c (brings xs) e in
      total_ext c.n _ _ (λ i h. ap (λ (x : Job). x.ran) (served_at c (brings xs) e i h))
      ∙ unit_tick c js e (λ i j l h. seat c js secs seated i j l h (sound_mid c periods c1s secs c2s xs good e i h))
      ∙ ap (λ (k : ℕ). k + busy (bytes c js)) (total_ext c.n _ _ (λ i h. ap (λ (x : Job). x.ran) (released_at_lem c (brings xs) e i h) ∙ ran_released c.bounds i e _ (brings xs i e)) ∙ units_busy e)

  -- that is, of the bytes of their trace
  pub units_are_busy_bytes : (e : ℕ) → (tally_of c.n (jobs_at c (brings xs) e)).run ≡ busy (log c xs 0 e)
  unfolding log
  units_are_busy_bytes e = simp zero-add (units_busy e ∙ sym (busy_joined e (bytes_at c (brings xs))))
