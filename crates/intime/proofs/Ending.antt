-- What it means for each part: it is released whole at its tick, ends within its bound, and stays behind its job.
use Prim.Native.Nat.{ℕ, zero, suc, ◌+◌, ◌*◌, ◌≤◌, ◌<◌, max}
use mathlib.Core.Path.{◌≡◌, refl, ap, ◌∙◌, subst}
use mathlib.Core.Bool.{Bool, true, false, cond}
use mathlib.Core.List.{List}
use mathlib.Core.Logic.{◌⊎◌, inl, inr}
use native.Mathlib.Decide.{dec_le, ℕ_discrete}
use native.Mathlib.Omega.{arith}
use lib.ListN.{get_or, set}
use lib.Dec.{ltb}
use Rattle.lists.proofs.Sets.{set-within}
use Rattle.lists.proofs.First.{first_none}
use Rattle.lists.proofs.Tab.{get_or-blank}
use Rattle.std.specs.Prelude.{Some}
use Rattle.chain.specs.declared.Place.{Place}
use Rattle.chain.specs.declared.Place.TheVariants.{Idle, Waiting, Running}
use Rattle.chain.specs.declared.Job.{Job}
use Rattle.chain.specs.Job.{job_at}
use Rattle.chain.specs.Release.{off, late}
use Rattle.chain.specs.Unit.{response}
use Rattle.chain.proofs.Offsets.{off-suc, off-le}
use Rattle.chain.proofs.Row.{left, left_own, left_running, new_at_lem, Fine, Soon}
use Rattle.picks.specs.Pick.{home}
use Rattle.picks.proofs.Cases.{Section}
use Rattle.machine.specs.Tick.{late_row, jobs_at, released_at, worst_at, late_at, noted_at, noted, noted_to, worse, picked}
use Rattle.machine.proofs.Keep.{picked_row}
use Rattle.intime.specs.Demand3.{Behind, Ended}
use Rattle.intime.proofs.System.{System, count, homes, rank, top_of, bound, job, mid, runner}
use Rattle.intime.proofs.Ticks.{Served, rested, worked, served, release, mid_running, mid_left}
use Rattle.intime.proofs.Induction.{always}

module _ (s : System) where
  -- the tick at which part j of row i's job that arrived at a is released
  abbrev at_tick : ℕ → ℕ → ℕ → ℕ
  at_tick i a j = a + off s.chart.bounds i j

  -- no row is late in any tick
  pub no_late : (t : ℕ) → late_at s.chart s.ar t ≡ count s
  unfolding late_at late_row job
  no_late t = first_none (count s) (λ i. late s.chart.bounds i t (job_at (jobs_at s.chart s.ar t) i) (s.ar i t)) (λ i hi. (release s t (always s t) i hi).in_time)

  -- a part of positive length is released whole, at its tick
  pub on_time : (i a j : ℕ) (ls : List ℕ) → i < count s → j < 3 → s.ar i a ≡ Some ls → 1 ≤ get_or ls j 0
      → ((mid s (at_tick i a j) i).arrived ≡ a) × ((mid s (at_tick i a j) i).place ≡ Running j (get_or ls j 0))
  on_time i a j ls hi hj came p = (whose, here)
    where
      t : ℕ
      t = at_tick i a j

      more : left (mid s t i).place j ≡ left (job s t i).place j + get_or ls j 0
      more = mid_left s t (always s t) i j hi hj ∙ ap (λ (x : ℕ). left (job s t i).place j + x) (new_at_lem s.chart.bounds i (s.ar i) j a t ls came refl)

      -- a running job is not changed by releases, so none ran
      calm : left (job s t i).place j ≡ 0
      calm =
          elim (dec_le 1 (left (job s t i).place j)) [
            | yes w ↦
                let (l, e) = left_running (job s t i).place j w in
                absurd (omega (arith, p, more, ap (λ (x : Job). left x.place j) ((release s t (always s t) i hi).stays j l e)))
            | no w ↦ omega arith
          ]

      here : (mid s t i).place ≡ Running j (get_or ls j 0)
      here =
          let (l, e) = left_running (mid s t i).place j (omega (arith, p, more)) in
          let q : l ≡ get_or ls j 0 = omega (arith, more, calm, ap (λ (x : Place). left x j) e, left_own j l) in
          e ∙ ap (Running j) q

      whose : (mid s t i).arrived ≡ a
      whose =
          let f = mid_running s t (always s t) i j (get_or ls j 0) hi here in
          omega (arith, f.since, f.live.last a ls came (omega arith))

  -- a part that runs once the releases of tick t are in is within its bound
  pub mid_soon : (t i j l : ℕ) → i < count s → (mid s t i).place ≡ Running j l → t < (mid s t i).arrived + off s.chart.bounds i j + bound s i j
  mid_soon t i j l hi e =
      let h : t < (mid s t i).arrived + off s.chart.bounds i (suc j) = subst (Soon s.chart.bounds i (s.ar i) t (mid s t i).arrived) e (release s t (always s t) i hi).soon in
      omega (arith, off-suc s.chart.bounds i j)

  -- a tick of the part's bound in which its last unit runs
  abbrev LastUnit : ℕ → ℕ → ℕ → Type 0
  LastUnit i a j =
      (t : ℕ) × (at_tick i a j ≤ t) × (t < at_tick i a j + bound s i j) × ((mid s t i).arrived ≡ a) × ((mid s t i).place ≡ Running j 1) × (runner s t (home (homes s) i j) ≡ suc i)

  -- a part that runs in tick t, at most m ticks before its bound is used up, goes on to its last unit
  unit_from : (i a j m t l : ℕ) → i < count s → at_tick i a j ≤ t → at_tick i a j + bound s i j ≤ t + m → (mid s t i).arrived ≡ a → (mid s t i).place ≡ Running j l → LastUnit i a j
  unit_from i a j zero t l hi lo le w e = absurd (omega (arith, mid_soon t i j l hi e))
  unit_from i a j (suc m) t l hi lo le w e = go (served s t (always s t) i hi) (λ l' x y. unit_from i a j m (suc t) l' hi (omega arith) (omega arith) x y)
    where
      Next : Type 0
      Next = (l' : ℕ) → (mid s (suc t) i).arrived ≡ a → (mid s (suc t) i).place ≡ Running j l' → LastUnit i a j

      -- the releases of the next tick do not change it
      on : (l' : ℕ) → Next → (job s (suc t) i).arrived ≡ a → (job s (suc t) i).place ≡ Running j l' → LastUnit i a j
      on l' ih x y =
          let q = (release s (suc t) (always s (suc t)) i hi).stays j l' y in
          ih l' (ap (λ (z : Job). z.arrived) q ∙ x) (ap (λ (z : Job). z.place) q ∙ y)

      go : Served s t i → Next → LastUnit i a j
      go (rested q f) ih = on l ih (ap (λ (z : Job). z.arrived) q ∙ w) (ap (λ (z : Job). z.place) q ∙ e)
      go (worked d k p r ran) ih =
          let same : d ≡ j = cc in
          let own : left (job s (suc t) i).place j + 1 ≡ k = rw same at ran.own in
          elim (ℕ_discrete k 1) [
            | yes one ↦ (t, lo, omega (arith, mid_soon t i j l hi e), w, cc, rw same at r)
            | no two ↦
                let (l', y) = left_running (job s (suc t) i).place j (omega arith) in
                on l' ih (ran.same ∙ w) y
          ]

  -- the last unit of a part of positive length runs within its bound
  pub last_unit : (i a j : ℕ) (ls : List ℕ) → i < count s → j < 3 → s.ar i a ≡ Some ls → 1 ≤ get_or ls j 0 → LastUnit i a j
  last_unit i a j ls hi hj came p =
      let (w, e) = on_time i a j ls hi hj came p in
      unit_from i a j (bound s i j) (at_tick i a j) (get_or ls j 0) hi (omega arith) (omega arith) w e

  -- from its release and its bound on, a part has ended
  pub behind : (i a j t : ℕ) (ls : List ℕ) → i < count s → s.ar i a ≡ Some ls → at_tick i a j + bound s i j ≤ t → Ended (mid s t i) a j
  behind i a j t ls hi came le =
      let r = release s t (always s t) i hi in
      let (old, past) = go (mid s t i).place r.fine r.soon in
      elim (ℕ_discrete (mid s t i).arrived a) [ yes e ↦ inr (e, past e) | no d ↦ inl (omega arith) ]
    where
      -- the offset of a part whose release is still to come, or that of the part behind the running one, is past part j's bound
      later : (e : ℕ) → t < a + off s.chart.bounds i e → suc j < e
      later e h =
          elim (dec_le (suc (suc j)) e) [
            | yes lt ↦ lt
            | no nl ↦ absurd (omega (arith, le, h, off-suc s.chart.bounds i j, off-le s.chart.bounds i e (suc j) (omega arith)))
          ]

      go : (p : Place) → Fine s.chart.bounds i (s.ar i) (suc t) (mid s t i) p → Soon s.chart.bounds i (s.ar i) t (mid s t i).arrived p
          → (a ≤ (mid s t i).arrived) × ((mid s t i).arrived ≡ a → Behind j p)
      go Idle f h = (f.last a ls came (omega (arith, le)), λ q. tt)
      go (Waiting u e) f h = (f.live.last a ls came (omega (arith, le)), λ q. omega (arith, later e (omega (arith, f.until, f.ahead))))
      go (Running e l) f h = (f.live.last a ls came (omega (arith, le)), λ q. omega (arith, later (suc e) (omega arith)))

  -- the jobs of all rows once the releases of tick t are in
  abbrev mids : ℕ → List Job
  mids t = released_at s.chart s.ar t

  -- numbers, three to a row, that are each within its part's bound
  abbrev Within : List ℕ → Type 0
  Within worst = (k : ℕ) → get_or worst k 0 ≤ get_or s.chart.bounds k 0

  -- they stay so when a processor's row has run its unit, and when those of the first q processors have
  noted_within : (t row : ℕ) → row ≤ count s → (worst : List ℕ) → Within worst → Within (noted s.chart.bounds t (mids t) row worst)
  unfolding noted noted_at mid
  noted_within t zero few worst h = h
  noted_within t (suc x) few worst h = go (mid s t x).place refl
    where
      ends : (b : Bool) (j l : ℕ) → (mid s t x).place ≡ Running j l
          → Within (cond b worst (set worst (3 * x + j) (max (get_or worst (3 * x + j) 0) (response s.chart.bounds x t (mid s t x).arrived j))))
      ends true j l e = h
      ends false j l e = set-within worst (λ k. get_or s.chart.bounds k 0) (3 * x + j) _ h (omega (arith, h (3 * x + j), mid_soon t x j l few e))

      go : (p : Place) → (mid s t x).place ≡ p → Within (noted_at s.chart.bounds t x (mid s t x) p worst)
      go Idle e = h
      go (Waiting u j) e = h
      go (Running j l) e = ends (ltb 1 l) j l e

  notes_within : (t q : ℕ) (worst : List ℕ) → Within worst → Within (noted_to s.chart.bounds t (mids t) (picked s.chart (mids t)) q worst)
  unfolding noted_to
  notes_within t zero worst h = h
  notes_within t (suc q) worst h = noted_within t _ (picked_row s.chart (mids t) (suc q)) _ (notes_within t q worst h)

  -- so the worst responses are, from the empty start on
  worst_within : (t : ℕ) → Within (worst_at s.chart s.ar t)
  unfolding worst_at worse
  worst_within zero = λ k. omega (arith, get_or-blank {A = ℕ} 192 0 k)
  worst_within (suc t) = notes_within t s.chart.m (worst_at s.chart s.ar t) (worst_within t)

  -- every worst response is at most the bound
  pub worst-le : (t i j : ℕ) → get_or (worst_at s.chart s.ar t) (3 * i + j) 0 ≤ bound s i j
  worst-le t i j = worst_within t (3 * i + j)

  -- of two begun sections on a processor, one is ranked above the ceiling of the other
  pub two_begun : (t q i k : ℕ) → i < count s → k < count s → Section (homes s) q i (job s t i) → Section (homes s) q k (job s t k) → 1 ≤ (job s t i).begun → 1 ≤ (job s t k).begun
      → (i ≡ k) ⊎ ((rank s i < top_of s k) ⊎ (rank s k < top_of s i))
  two_begun t q i k hi hk x y bi bk =
      let st = (always s t).stacked in
      elim (ℕ_discrete (job s t k).begun (job s t i).begun) [
        | yes e ↦ inl (st.one q i k hi hk x y bk e)
        | no d ↦
            elim (dec_le (suc (job s t k).begun) (job s t i).begun) [
              | yes lt ↦ inr (inl (st.above q i k hi hk x y bk lt))
              | no nl ↦ inr (inr (st.above q k i hk hi y x bi (omega arith)))
            ]
      ]
