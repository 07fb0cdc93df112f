-- Ticks stepped together are the same ticks stepped one by one.
use Prim.Native.Nat.{ℕ, zero, suc, ◌+◌, ◌-◌, ◌≤◌, ◌<◌}
use mathlib.Core.Path.{◌≡◌, refl, sym, ◌∙◌, ap}
use mathlib.Core.Bool.{Bool, true, false}
use mathlib.Core.List.{List}
use Rattle.std.specs.Prelude.{None}
use native.Mathlib.Omega.{arith}
use native.Mathlib.Nat.{add-zero}
use borrow.Author.Tests.{eqb-true}
use lib.Dec.{eqb}
use lib.ListN.{get_or}
use Rattle.lists.specs.Tab.{filled}
use Rattle.lists.proofs.Tests.{both}
use Rattle.lists.proofs.Tab.{tab_same, get_or-filled, filled_same}
use Rattle.lists.proofs.First.{first_none}
use Rattle.chain.specs.declared.Place.TheVariants.{Running}
use Rattle.chain.specs.declared.Job.{Job}
use Rattle.chain.specs.Job.{no_job, job_at}
use Rattle.chain.specs.Release.{due_of}
use Rattle.chain.specs.Unit.{pushed}
use Rattle.chain.proofs.Before.{released_before, late_before}
use Rattle.chain.proofs.Pushed.{place_pushed, begun_pushed, begun_started}
use Rattle.picks.specs.Pick.{home, section_on, waits, pick}
use Rattle.picks.proofs.Picked.{Alike, section_here, alike_job, alike_part, pick_same}
use Rattle.picks.proofs.Started.{begun_there, started_runs}
use Rattle.machine.specs.declared.Chart.{Chart}
use Rattle.machine.specs.Tick.{Arrivals, serve, byte_of, noted, noted_to, releases, late_row, picked, units, bytes, worse, step}
use Rattle.machine.proofs.Keep.{releases_at, picked_pick, picked_runs}
use Rattle.stretch.specs.Stretch.{steps_from, there_after, worst_from}
use Rattle.stretch.specs.Push.{Goes, push_row, push_all}
use Rattle.stretch.proofs.Rows.{push_cases, push_runs, due_push, kind_push, serve_push, not_noted}

-- in k ticks behind tick t no arrival comes, no release falls due, and what the processors run goes on; `there` are the jobs once
-- the releases of tick t are in, begun in ticks before, and `rows` what the processors pick then
pub record Calm (c : Chart) (ar : Arrivals) (t k : ℕ) (there : List Job) (rows : List ℕ) : Type 0 where
  pub none_comes : (i u : ℕ) → i < c.n → t < u → u ≤ t + k → ar i u ≡ None
  pub still : 0 < k → (i : ℕ) → i < c.n → t + k < due_of c.bounds i (job_at there i)
  pub go_on : 0 < k → (q i : ℕ) → q < 17 → get_or rows q 0 ≡ suc i → Goes (get_or c.rank i 0) (get_or c.top i 0) (suc k) (job_at there i) (job_at there i).place
  pub marked : (i : ℕ) → i < c.n → (job_at there i).begun ≤ t

module _ (c : Chart) (ar : Arrivals) (t k : ℕ) (js : List Job) where
  -- the jobs once the releases of tick t are in, and the rows that are picked then
  abbrev there : List Job
  there = releases c.n c.bounds ar t js

  abbrev rows : List ℕ
  rows = picked c there

  -- row i's job, and the jobs, when the picked rows have run j units
  abbrev pushed_row : ℕ → ℕ → Job
  pushed_row j i = push_row rows c.homes t j i (job_at there i)

  abbrev pushes : ℕ → List Job
  pushes j = push_all rows c.homes c.n t j there

  -- row i among them
  pushes_at : (j i : ℕ) → i < c.n → job_at (pushes j) i ≡ pushed_row j i
  unfolding push_all
  pushes_at j i l = get_or-filled 64 no_job (pushed_row j) c.n i no_job l

  -- no unit has run yet
  pushes_none : pushes 0 ≡ there
  unfolding push_all pushed releases
  pushes_none =
      filled_same 64 no_job c.n _ _
      (λ i l.
      push_cases rows c.homes t 0 i (job_at there i) (λ y. y ≡ job_at there i) refl (λ r m e p. refl)
      ∙ releases_at c.n c.bounds ar t js i l)

  module _ (calm : Calm c ar t k there rows) where
    -- a picked part goes on
    goes : 0 < k → (i r l : ℕ) → (job_at there i).place ≡ Running r l → get_or rows (home c.homes i r) 0 ≡ suc i → Goes (get_or c.rank i 0) (get_or c.top i 0) (suc k) (job_at there i) (Running r l)
    goes h i r l e p = rw e at (calm.go_on h (home c.homes i r) i (picked_pick c there (home c.homes i r) i p).0 p)

    -- a row is on a processor as it was, but where its section starts there;
    alike : (j q i : ℕ) → i < c.n → (get_or rows q 0 ≡ suc i → waits c.homes c.rank c.top c.n there q i ≡ false) → Alike c.homes q (pushes j) there i
    alike j q i b begun =
        let x = job_at there i in
        push_cases rows c.homes t j i x (λ y. job_at (pushes j) i ≡ y → Alike c.homes q (pushes j) there i)
        (alike_job c.homes q (pushes j) there i)
        (λ r l e p d.
        alike_part c.homes q (pushes j) there i r (l - j) l (ap (λ (y : Job). y.place) d ∙ place_pushed t j x r l e) e
        (λ on.
        let here = (section_here c.homes q i r l (ap (section_on c.homes q i) (sym e) ∙ on)).1 in
        ap (λ (y : Job). y.begun) d ∙ begun_pushed t j x r l (begun_there c.homes c.rank c.top c.n there q i on (begun (ap (λ p. get_or rows p 0) (sym here) ∙ p)))))
        (pushes_at j i b)

    -- one that starts has begun after all others, and runs on;
    started : (j q i : ℕ) → j < k → get_or rows q 0 ≡ suc i → waits c.homes c.rank c.top c.n there q i ≡ true → pick c.homes c.rank c.top c.n (pushes (suc j)) q ≡ suc i
    unfolding waits section_on
    started j q i h e free =
        let (b, w) = picked_runs c there q i e in
        let x = job_at there i in
        let (on, z) = both (section_on c.homes q i x.place) (eqb x.begun 0) free in
        let none = eqb-true x.begun 0 z in
        let p : get_or rows (home c.homes i w.part) 0 ≡ suc i = rw w.home_is e in
        let d = pushes_at (suc j) i b ∙ push_runs rows c.homes t (suc j) i x w.part w.left w.place_is p in
        let place = ap (λ (y : Job). y.place) d ∙ place_pushed t (suc j) x w.part w.left w.place_is in
        let section = ap (section_on c.homes q i) (sym w.place_is) ∙ on in
        let mark = ap (λ (y : Job). y.begun) d ∙ begun_started t j x w.part w.left none in
        started_runs c.homes c.rank c.top c.n there (pushes (suc j)) q i (picked_pick c there q i e).1 free (ap (section_on c.homes q i) place ∙ section)
        (λ r l k. alike (suc j) q r l (λ f. absurd (k (omega arith))))
        (λ r l. omega (arith, mark, calm.marked r l))
        ((goes (omega arith) i w.part w.left w.place_is p).1 (section_here c.homes q i w.part w.left section).0 none)

    -- so the processors pick the same again,
    picked_same : (j : ℕ) → j ≤ k → picked c (pushes j) ≡ rows
    unfolding picked
    picked_same zero h = ap (picked c) pushes_none
    picked_same (suc j) h = tab_same 17 _ _ (λ q b. go q (get_or rows q 0) refl)
      where
        same : (q : ℕ) → ((i : ℕ) → get_or rows q 0 ≡ suc i → waits c.homes c.rank c.top c.n there q i ≡ false) → pick c.homes c.rank c.top c.n (pushes (suc j)) q ≡ pick c.homes c.rank c.top c.n there q
        same q f = pick_same c.homes c.rank c.top c.n (pushes (suc j)) there q (λ i l. alike (suc j) q i l (f i))

        by_test : (q i : ℕ) → get_or rows q 0 ≡ suc i → (w : Bool) → waits c.homes c.rank c.top c.n there q i ≡ w → pick c.homes c.rank c.top c.n (pushes (suc j)) q ≡ pick c.homes c.rank c.top c.n there q
        by_test q i e true w = started j q i (omega arith) e w ∙ sym (picked_pick c there q i e).1
        by_test q i e false w =
            same q
            (λ r d.
            let s : r ≡ i = omega arith in
            ap (waits c.homes c.rank c.top c.n there q) s ∙ w)

        go : (q row : ℕ) → get_or rows q 0 ≡ row → pick c.homes c.rank c.top c.n (pushes (suc j)) q ≡ pick c.homes c.rank c.top c.n there q
        go q zero e = same q (λ i d. absurd (omega arith))
        go q (suc i) e = by_test q i e (waits c.homes c.rank c.top c.n there q i) refl

    -- no release of the ticks behind the first is due,
    due_behind : (j : ℕ) → j < k → (i : ℕ) → i < c.n → t + suc j < due_of c.bounds i (pushed_row (suc j) i)
    due_behind j h i l = rw (due_push rows c.homes t (suc j) i (job_at there i) c.bounds) (omega (arith, calm.still (omega arith) i l))

    -- so releases change nothing,
    releases_same : (j : ℕ) → j < k → releases c.n c.bounds ar (t + suc j) (pushes (suc j)) ≡ pushes (suc j)
    unfolding releases push_all
    releases_same j h =
        filled_same 64 no_job c.n _ _
        (λ i l. rw (pushes_at (suc j) i l, calm.none_comes i (t + suc j) l (omega arith) (omega arith)) (released_before c.bounds i (t + suc j) (pushed_row (suc j) i) (due_behind j h i l)))

    -- and each tick is a unit of the picked rows
    step_same : (j : ℕ) → j ≤ k → there_after c ar t j js ≡ pushes j → steps_from c ar t (suc j) js ≡ filled 64 no_job c.n (λ i. serve rows c.bounds c.homes (t + j) i (pushed_row j i))
    unfolding steps_from there_after step units
    step_same j h e = rw (e, picked_same j h) (filled_same 64 no_job c.n _ _ (λ i l. ap (serve rows c.bounds c.homes (t + j) i) (pushes_at j i l)))

    -- as long as it is not the last of a part,
    step_pushes : (j : ℕ) → j < k → there_after c ar t j js ≡ pushes j → steps_from c ar t (suc j) js ≡ pushes (suc j)
    unfolding push_all
    step_pushes j h e =
        step_same j (omega arith) e
        ∙ filled_same 64 no_job c.n _ _
        (λ i l. serve_push rows c.homes t j i (job_at there i) c.bounds (λ r m d p. omega (arith, (goes (omega arith) i r m d p).0)))

    -- and the jobs behind the releases of each tick are those
    there_same : (j : ℕ) → j ≤ k → there_after c ar t j js ≡ pushes j
    unfolding there_after steps_from
    there_same zero h = rw (add-zero t) (sym pushes_none)
    there_same (suc j) h = rw (step_pushes j (omega arith) (there_same j (omega arith))) (releases_same j (omega arith))

    -- The jobs after the stretch,
    pub stretch_jobs : steps_from c ar t (suc k) js ≡ filled 64 no_job c.n (λ i. serve rows c.bounds c.homes (t + k) i (push_row rows c.homes t k i (job_at there i)))
    stretch_jobs = step_same k (omega arith) (there_same k (omega arith))

    -- no release too early in it,
    pub stretch_timely : (j : ℕ) → 0 < j → j ≤ k → late_row c.n c.bounds ar (t + j) (steps_from c ar t j js) ≡ c.n
    unfolding late_row
    stretch_timely zero h l = absurd (omega arith)
    stretch_timely (suc j) h l =
        rw (step_pushes j (omega arith) (there_same j (omega arith)))
        (first_none c.n _
        (λ i b. rw (pushes_at (suc j) i b, calm.none_comes i (t + suc j) b (omega arith) (omega arith)) (late_before c.bounds i (t + suc j) (pushed_row (suc j) i) (due_behind j (omega arith) i b))))

    -- no response is noted before the last tick
    noted_same : (j : ℕ) → j < k → (q : ℕ) (worst : List ℕ) → noted c.bounds (t + j) (pushes j) (get_or rows q 0) worst ≡ worst
    unfolding noted
    noted_same j h q worst = go (get_or rows q 0) refl
      where
        go : (row : ℕ) → get_or rows q 0 ≡ row → noted c.bounds (t + j) (pushes j) row worst ≡ worst
        go zero e = refl
        go (suc i) e =
            let (l, w) = picked_runs c there q i e in
            let p : get_or rows (home c.homes i w.part) 0 ≡ suc i = rw w.home_is e in
            rw (pushes_at j i l)
            (not_noted rows c.homes t j i (job_at there i) c.bounds (t + j) w.part w.left w.place_is p
            (omega (arith, (goes (omega arith) i w.part w.left w.place_is p).0))
            worst)

    -- so the worst responses stay up to there
    worst_same : (j : ℕ) → j ≤ k → (worst : List ℕ) → worst_from c ar t j js worst ≡ worst
    unfolding worst_from worse noted_to
    worst_same zero h worst = refl
    worst_same (suc j) h worst = rw (there_same j (omega arith), picked_same j (omega arith), worst_same j (omega arith) worst) (go c.m)
      where
        go : (m : ℕ) → noted_to c.bounds (t + j) (pushes j) rows m worst ≡ worst
        go zero = refl
        go (suc m) = noted_same j (omega arith) (suc m) (noted_to c.bounds (t + j) (pushes j) rows m worst) ∙ go m

    -- the worst responses after it,
    pub stretch_worst : (worst : List ℕ) → worst_from c ar t (suc k) js worst ≡ noted_to c.bounds (t + k) (push_all rows c.homes c.n t k there) rows c.m worst
    unfolding worst_from worse
    stretch_worst worst = rw (there_same k (omega arith), picked_same k (omega arith), worst_same k (omega arith) worst)

    -- and the bytes of each of its ticks
    pub stretch_bytes : (j : ℕ) → j ≤ k → bytes c (there_after c ar t j js) ≡ bytes c there
    unfolding bytes byte_of
    stretch_bytes j h = rw (there_same j h, picked_same j h) (tab_same c.m _ _ (λ q b. go (get_or rows (suc q) 0) (λ i e. (picked_runs c there (suc q) i e).0)))
      where
        go : (row : ℕ) → ((i : ℕ) → row ≡ suc i → i < c.n) → byte_of (pushes j) row ≡ byte_of there row
        go zero f = refl
        go (suc i) f = rw (pushes_at j i (f i refl), kind_push rows c.homes t j i (job_at there i))
