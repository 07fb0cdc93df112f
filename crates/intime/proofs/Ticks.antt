-- All rows together: what a tick does, as far as the machine is in time.
use Prim.Native.Nat.{ℕ, zero, suc, ◌+◌, ◌-◌, ◌≤◌, ◌<◌}
use mathlib.Core.Path.{◌≡◌, refl, sym, ap, ◌∙◌, subst}
use mathlib.Core.Bool.{Bool, true, false, cond}
use mathlib.Core.List.{List}
use mathlib.Core.Logic.{◌⊎◌, inl, inr}
use native.Mathlib.Nat.{le_refl}
use native.Mathlib.Decide.{ℕ_discrete}
use native.Mathlib.Omega.{arith}
use borrow.Author.Tests.{eqb-true, eqb-false}
use lib.ListN.{get_or}
use lib.Dec.{eqb}
use Rattle.lists.proofs.Tests.{clash}
use Rattle.lists.proofs.Tab.{get_or-tab}
use Rattle.chain.specs.declared.Place.{Place}
use Rattle.chain.specs.declared.Place.TheVariants.{Idle, Waiting, Running}
use Rattle.chain.specs.declared.Job.{Job}
use Rattle.chain.specs.Release.{off}
use Rattle.chain.specs.Unit.{mark, unit_of}
use Rattle.chain.proofs.Row.{left, left_own, new, IsRunning, Fine, Soon, Released, released_ok, Ran, unit_ok}
use Rattle.picks.specs.Pick.{home, pick}
use Rattle.picks.proofs.Cases.{Section, Picks, starting, going_on, nothing, staged, pick_says}
use Rattle.machine.specs.Tick.{serve_at, picked, released_at}
use Rattle.machine.proofs.Ticks.{released_at_lem, served_at}
use Rattle.intime.proofs.System.{System, count, homes, rank, top_of, job, mid, runner}

-- of two sections begun and unfinished on a processor, the one begun later is ranked above the ceiling of the other
pub record Stacked (s : System) (x : ℕ → Job) : Type 0 where
  pub above : (q i d : ℕ) → i < count s → d < count s → Section (homes s) q i (x i) → Section (homes s) q d (x d) → 1 ≤ (x d).begun → (x d).begun < (x i).begun
      → rank s i < top_of s d
  pub one : (q i d : ℕ) → i < count s → d < count s → Section (homes s) q i (x i) → Section (homes s) q d (x d) → 1 ≤ (x d).begun → (x d).begun ≡ (x i).begun → i ≡ d

-- the machine at the start of tick t
pub record Ok (s : System) (t : ℕ) : Type 0 where
  pub fine : (i : ℕ) → i < count s → Fine s.chart.bounds i (s.ar i) t (job s t i) (job s t i).place
  pub soon : (i : ℕ) → i < count s → Soon s.chart.bounds i (s.ar i) t (job s t i).arrived (job s t i).place
  pub stacked : Stacked s (job s t)

-- what the pick of processor q in tick t says of the rows
abbrev pub Picked : System → ℕ → ℕ → Type 0
Picked s q t = Picks (homes s) s.chart.rank s.chart.top (count s) (released_at s.chart s.ar t) q (runner s t q)

-- each processor's pick says so
pub picks_in : (s : System) (q t : ℕ) → Picked s q t
unfolding runner
picks_in s q t = pick_says (homes s) s.chart.rank s.chart.top (count s) (released_at s.chart s.ar t) q

-- what an arrival brings for a part is at most the table's length
pub lens_le : (s : System) (t i j l : ℕ) (x : Job) → i < count s → IsRunning s.chart.bounds i (s.ar i) t x j l → get_or x.lens j 0 ≤ s.len i j
lens_le s t i j l x hi f = (s.fit i hi).lengths x.arrived x.lens f.live.came j f.inside

-- a section stays one for an equal job
abbrev move : (hs : List ℕ) (q i : ℕ) (x y : Job) → x ≡ y → Section hs q i x → Section hs q i y
move hs q i x y e z = record { rest = z.rest; at = ap (λ (k : Job). k.place) (sym e) ∙ z.at; on = z.on }

-- jobs of which each begun one is the row's job among stacked ones are stacked too
stacked_among : (s : System) (x y : ℕ → Job) → ((i : ℕ) → i < count s → 1 ≤ (y i).begun → y i ≡ x i) → Stacked s x → Stacked s y
stacked_among s x y same st =
    record {
      above = λ q i d hi hd si sd b lt.
          let bi : 1 ≤ (y i).begun = omega arith in
          st.above q i d hi hd (old q i hi si bi) (old q d hd sd b) (omega (arith, begun d hd b)) (omega (arith, begun i hi bi, begun d hd b));
      one = λ q i d hi hd si sd b e.
          let bi : 1 ≤ (y i).begun = omega arith in
          st.one q i d hi hd (old q i hi si bi) (old q d hd sd b) (omega (arith, begun d hd b)) (omega (arith, begun i hi bi, begun d hd b));
    }
  where
    old : (q i : ℕ) → i < count s → Section (homes s) q i (y i) → 1 ≤ (y i).begun → Section (homes s) q i (x i)
    old q i hi z b = move (homes s) q i (y i) (x i) (same i hi b) z

    begun : (i : ℕ) → i < count s → 1 ≤ (y i).begun → (y i).begun ≡ (x i).begun
    begun i hi b = ap (λ (k : Job). k.begun) (same i hi b)

module _ (s : System) where
  -- the table of the picks has the pick of each processor
  pub picked_is : (t q : ℕ) → q < 17 → get_or (picked s.chart (released_at s.chart s.ar t)) q 0 ≡ runner s t q
  unfolding picked runner
  picked_is t q h = get_or-tab 17 (pick (homes s) s.chart.rank s.chart.top (count s) (released_at s.chart s.ar t)) q 0 h

  -- a row runs a unit where its part's processor picks it
  pub data Served (t i : ℕ) : Type 0 where
    rested : job s (suc t) i ≡ mid s t i
        → ((j l : ℕ) → (mid s t i).place ≡ Running j l → runner s t (home (homes s) i j) ≡ suc i → ⊥) → Served t i
    worked : (j l : ℕ) → (mid s t i).place ≡ Running j l → runner s t (home (homes s) i j) ≡ suc i
        → Ran s.chart.bounds i (s.ar i) t (mid s t i) j l (job s (suc t) i) → Served t i

  -- a begun section after a tick: it was begun before, or it started in the tick
  pub data Origin (t q i : ℕ) (x : Section (homes s) q i (job s (suc t) i)) : Type 0 where
    kept : (m : Section (homes s) q i (mid s t i)) → 1 ≤ (mid s t i).begun → (job s (suc t) i).begun ≡ (mid s t i).begun
        → x.rest ≤ m.rest → (runner s t q ≡ suc i → x.rest + 1 ≡ m.rest) → Origin t q i x
    born : Section (homes s) q i (mid s t i) → (mid s t i).begun ≡ 0 → runner s t q ≡ suc i → (job s (suc t) i).begun ≡ suc t → Origin t q i x

  module _ (t : ℕ) (ok : Ok s t) where
    -- what the releases of the tick make of a row's job
    pub release : (i : ℕ) → i < count s → Released s.chart.bounds i (s.ar i) t (job s t i) (mid s t i)
    unfolding job mid
    release i hi =
        rw (released_at_lem s.chart s.ar t i hi)
        (released_ok s.chart.bounds i (s.ar i) (s.period i) (s.len i) (s.fit i hi) t (job s t i) (ok.fine i hi) (ok.soon i hi))

    -- a part that runs once the releases are in
    pub mid_running : (i j l : ℕ) → i < count s → (mid s t i).place ≡ Running j l → IsRunning s.chart.bounds i (s.ar i) (suc t) (mid s t i) j l
    mid_running i j l hi e = subst (Fine s.chart.bounds i (s.ar i) (suc t) (mid s t i)) e (release i hi).fine

    -- a running part takes time, so it has a processor
    pub running_home : (i j l : ℕ) → i < count s → (mid s t i).place ≡ Running j l → home (homes s) i j < 17
    running_home i j l hi e =
        let f = mid_running i j l hi e in
        s.homed i j hi f.inside (omega (arith, f.some_left, f.at_most, lens_le s (suc t) i j l (mid s t i) hi f))

    -- a row's job after the tick, by its place once the releases are in
    after : (i : ℕ) (p : Place) → i < count s → (mid s t i).place ≡ p
        → job s (suc t) i ≡ serve_at (picked s.chart (released_at s.chart s.ar t)) s.chart.bounds (homes s) t i (mid s t i) p
    unfolding job mid
    after i p hi e =
        served_at s.chart s.ar t i hi
        ∙ ap (serve_at (picked s.chart (released_at s.chart s.ar t)) s.chart.bounds (homes s) t i (mid s t i)) e

    -- a running part runs a unit where its processor picks its row; otherwise the job stays as it is
    pub served : (i : ℕ) → i < count s → Served t i
    unfolding serve_at
    served i hi = go (mid s t i).place refl
      where
        by : (j l : ℕ) → (mid s t i).place ≡ Running j l → (b : Bool) → eqb (runner s t (home (homes s) i j)) (suc i) ≡ b
            → job s (suc t) i ≡ cond b (unit_of s.chart.bounds i t (mid s t i) j l) (mid s t i) → Served t i
        by j l e true w q =
            let soon : t < (mid s t i).arrived + off s.chart.bounds i (suc j) = subst (Soon s.chart.bounds i (s.ar i) t (mid s t i).arrived) e (release i hi).soon in
            worked j l e (eqb-true (runner s t (home (homes s) i j)) (suc i) w)
            (rw q (unit_ok s.chart.bounds i (s.ar i) (s.period i) (s.len i) (s.fit i hi) t (mid s t i) j l (mid_running i j l hi e) soon))
        by j l e false w q =
            rested q (λ d k e' r.
            let z : Running j l ≡ Running d k = sym e ∙ e' in
            let jd : j ≡ d = cc in
            eqb-false (runner s t (home (homes s) i j)) (suc i) w (rw jd r))

        go : (p : Place) → (mid s t i).place ≡ p → Served t i
        go Idle e = rested (after i Idle hi e) (λ j l e' r. clash cc)
        go (Waiting u j) e = rested (after i (Waiting u j) hi e) (λ d l e' r. clash cc)
        go (Running j l) e =
            by j l e (eqb (runner s t (home (homes s) i j)) (suc i)) refl
            (after i (Running j l) hi e
            ∙ ap (λ (r : ℕ). cond (eqb r (suc i)) (unit_of s.chart.bounds i t (mid s t i) j l) (mid s t i)) (picked_is t (home (homes s) i j) (running_home i j l hi e)))

    -- the part that has run a unit has one less left
    unit_run : (i j e l : ℕ) → e ≡ j → (mid s t i).place ≡ Running e l → Ran s.chart.bounds i (s.ar i) t (mid s t i) e l (job s (suc t) i)
        → left (job s (suc t) i).place j + 1 ≡ left (mid s t i).place j
    unit_run i j e l q w ran =
        subst (λ (k : ℕ). left (job s (suc t) i).place k + 1 ≡ left (mid s t i).place k) q (ran.own ∙ sym (left_own e l) ∙ ap (λ (p : Place). left p e) (sym w))

    -- units only lessen what is left of a part
    pub falls : (i j : ℕ) → i < count s → left (job s (suc t) i).place j ≤ left (mid s t i).place j
    falls i j hi = go (served i hi)
      where
        go : Served t i → left (job s (suc t) i).place j ≤ left (mid s t i).place j
        go (rested e n) = omega (arith, ap (λ (x : Job). left x.place j) e)
        go (worked e l w r ran) = elim (ℕ_discrete e j) [ yes q ↦ omega (arith, unit_run i j e l q w ran) | no q ↦ omega (arith, ran.others j q) ]

    -- releases add what is new of a part
    pub mid_left : (i j : ℕ) → i < count s → j < 3 → left (mid s t i).place j ≡ left (job s t i).place j + new s.chart.bounds i (s.ar i) j t
    mid_left i j hi hj = (release i hi).flow j hj

    -- the picked part runs a unit
    pub one_unit : (i j l : ℕ) → i < count s → (mid s t i).place ≡ Running j l → runner s t (home (homes s) i j) ≡ suc i
        → left (job s (suc t) i).place j + 1 ≡ left (mid s t i).place j
    one_unit i j l hi w r = go (served i hi)
      where
        go : Served t i → left (job s (suc t) i).place j + 1 ≡ left (mid s t i).place j
        go (rested e n) = absurd (n j l w r)
        go (worked e k w' r' ran) =
            let z : Running e k ≡ Running j l = sym w' ∙ w in
            unit_run i j e k (cc) w' ran

    -- after the tick every job is where it should be
    pub next_fine : (i : ℕ) → i < count s → Fine s.chart.bounds i (s.ar i) (suc t) (job s (suc t) i) (job s (suc t) i).place
    next_fine i hi = go (served i hi)
      where
        go : Served t i → Fine s.chart.bounds i (s.ar i) (suc t) (job s (suc t) i) (job s (suc t) i).place
        go (rested e n) = subst (λ (x : Job). Fine s.chart.bounds i (s.ar i) (suc t) x x.place) (sym e) (release i hi).fine
        go (worked j l w r ran) = ran.fine

    -- what is begun once the releases are in was begun before them
    pub held_old : (i : ℕ) → i < count s → 1 ≤ (mid s t i).begun → mid s t i ≡ job s t i
    held_old i hi b = go (release i hi).begins
      where
        go : (mid s t i ≡ job s t i) ⊎ ((mid s t i).begun ≡ 0) → mid s t i ≡ job s t i
        go (inl e) = e
        go (inr z) = absurd (omega arith)

    -- and carries a mark of a tick before this one
    marked_old : (q i : ℕ) → i < count s → Section (homes s) q i (mid s t i) → 1 ≤ (mid s t i).begun → (mid s t i).begun ≤ t
    marked_old q i hi z b =
        let e = held_old i hi b in
        let y = move (homes s) q i (mid s t i) (job s t i) e z in
        let f : IsRunning s.chart.bounds i (s.ar i) t (job s t i) 1 y.rest = subst (Fine s.chart.bounds i (s.ar i) t (job s t i)) y.at (ok.fine i hi) in
        omega (arith, f.marked, ap (λ (k : Job). k.begun) e)

    -- so the releases keep the sections stacked
    pub mid_stacked : Stacked s (mid s t)
    mid_stacked = stacked_among s (job s t) (mid s t) held_old ok.stacked

    -- a begun section after the tick rested, or ran a unit, its first one or a later one
    pub origin : (q i : ℕ) → i < count s → (x : Section (homes s) q i (job s (suc t) i)) → 1 ≤ (job s (suc t) i).begun → Origin t q i x
    unfolding mark
    origin q i hi x b = go (served i hi)
      where
        by : (m : Section (homes s) q i (mid s t i)) → runner s t q ≡ suc i → x.rest + 1 ≡ m.rest
            → (c : ℕ) → (mid s t i).begun ≡ c → (job s (suc t) i).begun ≡ mark t c → Origin t q i x
        by m r l zero ec eb = born m ec r eb
        by m r l (suc c) ec eb = kept m (omega arith) (omega arith) (omega arith) (λ u. l)

        from : (j l : ℕ) → (mid s t i).place ≡ Running j l → runner s t (home (homes s) i j) ≡ suc i
            → (ran : Ran s.chart.bounds i (s.ar i) t (mid s t i) j l (job s (suc t) i))
            → ((job s (suc t) i).begun ≡ 0) ⊎ (((job s (suc t) i).begun ≡ mark t (mid s t i).begun) × ((job s (suc t) i).place ≡ Running j (l - 1))) → Origin t q i x
        from j l w r ran (inl z) = absurd (omega arith)
        from j l w r ran (inr (eb, sp)) =
            let z : Running 1 x.rest ≡ Running j (l - 1) = sym x.at ∙ sp in
            let one : j ≡ 1 = cc in
            let rl : x.rest ≡ l - 1 = cc in
            let m : Section (homes s) q i (mid s t i) = record { rest = l; at = rw (← one) w; on = x.on } in
            by m (ap (runner s t) (sym (ap (home (homes s) i) one ∙ x.on)) ∙ r) (omega (arith, ran.own)) (mid s t i).begun refl eb

        go : Served t i → Origin t q i x
        go (rested e n) =
            let m = move (homes s) q i (job s (suc t) i) (mid s t i) e x in
            let eb : (job s (suc t) i).begun ≡ (mid s t i).begun = ap (λ (k : Job). k.begun) e in
            kept m (omega arith) eb (le_refl x.rest) (λ r. absurd (n 1 m.rest m.at (rw m.on r)))
        go (worked j l w r ran) = from j l w r ran ran.begins

    -- what starts is ranked above the ceilings of all that is held
    starts_clear : (q i d : ℕ) → i < count s → d < count s → Section (homes s) q i (mid s t i) → (mid s t i).begun ≡ 0 → runner s t q ≡ suc i
        → Section (homes s) q d (mid s t d) → 1 ≤ (mid s t d).begun → rank s i < top_of s d
    unfolding mid
    starts_clear q i d hi hd m z r y b = go (picks_in s q t)
      where
        go : Picked s q t → rank s i < top_of s d
        go (starting x e hx sx bx f g) = let xi : x ≡ i = cc in rw (← xi) (g d hd y b)
        go (going_on x e hx sx bx f g) = let xi : x ≡ i = cc in absurd (omega (arith, ap (λ (k : ℕ). (mid s t k).begun) xi))
        go (nothing e f g) = absurd (f i hi m)
        go (staged x e hx f sx g) = absurd (f i hi m)

    -- two sections after the tick: what is begun later of the two started in the tick, or both were begun before
    module _ (q i d : ℕ) (hi : i < count s) (hd : d < count s) (si : Section (homes s) q i (job s (suc t) i)) (sd : Section (homes s) q d (job s (suc t) d)) where
      -- the one begun later is ranked above the other's ceiling,
      next_above : (job s (suc t) d).begun < (job s (suc t) i).begun → Origin t q i si → Origin t q d sd → rank s i < top_of s d
      next_above lt (kept mi bi ei li ri) (kept md bd ed ld rd) = mid_stacked.above q i d hi hd mi md bd (omega arith)
      next_above lt (born mi bi ri ei) (kept md bd ed ld rd) = starts_clear q i d hi hd mi bi ri md bd
      next_above lt (kept mi bi ei li ri) (born md bd rd ed) = absurd (omega (arith, marked_old q i hi mi bi))
      next_above lt (born mi bi ri ei) (born md bd rd ed) = absurd (omega arith)

      -- and no two carry one mark
      next_one : (job s (suc t) d).begun ≡ (job s (suc t) i).begun → Origin t q i si → Origin t q d sd → i ≡ d
      next_one e (kept mi bi ei li ri) (kept md bd ed ld rd) = mid_stacked.one q i d hi hd mi md bd (omega arith)
      next_one e (born mi bi ri ei) (kept md bd ed ld rd) = absurd (omega (arith, marked_old q d hd md bd))
      next_one e (kept mi bi ei li ri) (born md bd rd ed) = absurd (omega (arith, marked_old q i hi mi bi))
      next_one e (born mi bi ri ei) (born md bd rd ed) = omega arith

    -- a tick keeps the sections stacked
    pub next_stacked : Stacked s (job s (suc t))
    next_stacked =
        record {
          above = λ q i d hi hd si sd b lt. next_above q i d hi hd si sd lt (origin q i hi si (omega arith)) (origin q d hd sd b);
          one = λ q i d hi hd si sd b e. next_one q i d hi hd si sd e (origin q i hi si (omega arith)) (origin q d hd sd b);
        }
