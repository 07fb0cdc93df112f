-- Demand 3, put together.
use Prim.Native.Nat.{ℕ, zero, suc, ◌+◌, ◌≤◌, ◌<◌}
use mathlib.Core.Path.{◌≡◌, refl, sym, ◌∙◌, subst}
use mathlib.Core.List.{List}
use mathlib.Core.Logic.{◌⊎◌, inl, inr}
use native.Mathlib.Omega.{arith}
use lib.ListN.{get_or}
use Rattle.std.specs.Prelude.{Some}
use Rattle.table.specs.declared.Table.{Table}
use Rattle.table.specs.Table.{reading_of, table_in}
use Rattle.table.specs.Good.{GoodTable}
use Rattle.table.proofs.Good.{table_good, names_resource}
use Rattle.plan.specs.declared.Plan.{Plan}
use Rattle.plan.specs.Trial.{plan_in}
use Rattle.plan.specs.Planning.{planned_of}
use Rattle.chain.specs.declared.Place.TheVariants.{Running}
use Rattle.chain.proofs.Row.{Fine, IsRunning}
use Rattle.picks.specs.Pick.{home}
use Rattle.machine.specs.Chart.{chart_of}
use Rattle.machine.specs.Tick.{Arrivals}
use Rattle.intime.specs.Demand3.{len_of, bound_of, release_of, Valid, Ended, Begun, released, InTime, Ends, at_once, after, ForPlans, Demand3}
use Rattle.intime.specs.Stands.{Stands}
use Rattle.intime.proofs.System.{System, homes, rank, top_of, job, mid}
use Rattle.intime.proofs.Ticks.{picked_is, running_home}
use Rattle.intime.proofs.Induction.{always}
use Rattle.intime.proofs.Ending.{no_late, on_time, mid_soon, last_unit, behind, worst-le, two_begun}
use Rattle.intime.proofs.Charted.{bound_is, release_is, top_user, section_home, system}
use Rattle.intime.proofs.Planned.{plan_stands}

-- the bounds of a job's parts are over within a period of its arrival
in_period : (t : Table) (p : Plan) → Stands t p → (i a j : ℕ) → i < t.n → j < 3 → release_of p i a j + bound_of p i j ≤ a + get_or t.period i 0
unfolding release_of bound_of
in_period t p st i a zero hi hj = omega (arith, st.sum i hi)
in_period t p st i a (suc zero) hi hj = omega (arith, st.sum i hi)
in_period t p st i a (suc (suc zero)) hi hj = omega (arith, st.sum i hi)
in_period t p st i a (suc (suc (suc j))) hi hj = absurd (omega arith)

module _ (t : Table) (p : Plan) (g : GoodTable t) (st : Stands t p) (ar : Arrivals) (va : Valid t ar) where
  -- the machine of the plan
  abbrev s : System
  s = system t p g st ar va

  -- a part that takes time stands there, whole, at its release
  whole : (i a j : ℕ) (ls : List ℕ) → i < t.n → j < 3 → ar i a ≡ Some ls → 1 ≤ get_or ls j 0
      → ((released t p ar (release_of p i a j) i).arrived ≡ a) × ((released t p ar (release_of p i a j) i).place ≡ Running j (get_or ls j 0))
  unfolding system chart_of mid
  whole i a j ls hi hj came long = rw (← release_is t p g i a j hi (omega arith)) (on_time s i a j ls hi hj came long)

  -- a part of length 0 ends at its release, and any other with its last unit, which runs within the bound
  ends_at : (i a j : ℕ) (ls : List ℕ) → i < t.n → j < 3 → ar i a ≡ Some ls
      → (e : ℕ) × Ends t p ar i a j ls e × (release_of p i a j ≤ e) × (e ≤ release_of p i a j + bound_of p i j)
  unfolding system chart_of mid
  ends_at i a j ls hi hj came = go (get_or ls j 0) refl
    where
      go : (l : ℕ) → get_or ls j 0 ≡ l → (e : ℕ) × Ends t p ar i a j ls e × (release_of p i a j ≤ e) × (e ≤ release_of p i a j + bound_of p i j)
      go zero z = (release_of p i a j, at_once z refl, omega arith, omega arith)
      go (suc l) z =
          let (n, from, to, arrived, there, runs) = last_unit s i a j ls hi hj came (omega arith) in
          let picks = picked_is s n (home (homes s) i j) (running_home s n (always s n) i j 1 hi there) ∙ runs in
          let r = release_is t p g i a j hi (omega arith) in
          (suc n, after n refl arrived there picks, omega arith, omega (arith, bound_is t p g i j hi hj))

  -- a part whose last unit runs in a tick is within its bound there
  ends_within : (i a j e : ℕ) (ls : List ℕ) → i < t.n → j < 3 → Ends t p ar i a j ls e → e ≤ release_of p i a j + bound_of p i j
  unfolding system chart_of mid
  ends_within i a j e ls hi hj (at_once z q) = omega arith
  ends_within i a j e ls hi hj (after n q arrived there picks) =
      omega (arith, mid_soon s n i j 1 hi there, release_is t p g i a j hi (omega arith), bound_is t p g i j hi hj)

  -- from its release and its bound on it has ended
  ended : (i a j n : ℕ) (ls : List ℕ) → i < t.n → j < 3 → ar i a ≡ Some ls → release_of p i a j + bound_of p i j ≤ n → Ended (released t p ar n i) a j
  unfolding system chart_of mid
  ended i a j n ls hi hj came le = behind s i a j n ls hi came (omega (arith, release_is t p g i a j hi (omega arith), bound_is t p g i j hi hj))

  -- a row with a begun section takes time for it, so it names a resource
  names : (n i : ℕ) → i < t.n → Begun (job s n i) → 1 ≤ get_or t.resource i 0
  unfolding system chart_of len_of
  names n i hi (l, there, begun) =
      let f : IsRunning s.chart.bounds i (ar i) n (job s n i) 1 l = subst (Fine s.chart.bounds i (ar i) n (job s n i)) there ((always s n).fine i hi) in
      let long : 1 ≤ get_or t.a i 0 = omega (arith, f.some_left, f.at_most, va.lengths i _ _ hi f.live.came 1 (omega arith)) in
      names_resource t g i hi long

  -- two begun sections of one resource are on one processor, and neither row is ranked above the ceiling of the resource
  one_begun : (n i k : ℕ) → i < t.n → k < t.n → get_or t.resource i 0 ≡ get_or t.resource k 0 → Begun (job s n i) → Begun (job s n k) → i ≡ k
  unfolding system chart_of
  one_begun n i k hi hk same (l, at, begun) (m, at', begun') =
      go (two_begun s n (home (homes s) k 1) i k hi hk
      (record { rest = l; at = at; on = section_home t p g i k hi hk same }) (record { rest = m; at = at'; on = refl }) begun begun')
    where
      go : (i ≡ k) ⊎ ((rank s i < top_of s k) ⊎ (rank s k < top_of s i)) → i ≡ k
      go (inl e) = e
      go (inr (inl above)) = absurd (omega (arith, top_user t p g i k hi hk (names n i hi (l, at, begun)) same))
      go (inr (inr above)) = absurd (omega (arith, top_user t p g k i hk hi (names n k hk (m, at', begun')) (sym same)))

  -- all of the statement
  all_in_time : InTime t p ar
  unfolding system chart_of job release_of
  all_in_time =
      record {
        is_released = whole;
        ends = ends_at;
        within = λ i a j e ls hi hj came. ends_within i a j e ls hi hj;
        has_ended = ended;
        in_order = λ i a j e ls hi hj came. ends_within i a j e ls hi (omega arith);
        job_by_job = λ i a b j e ls ks hi hj came next before x.
            omega (arith, ends_within i a j e ls hi hj x, in_period t p st i a j hi hj, va.apart i a b ls ks hi came next before);
        never_late = no_late s;
        alone = one_begun;
        worst = λ n i j hi hj. rw (← bound_is t p g i j hi hj) (worst-le s n i j);
      }

-- for every plan that stands
pub for_plans : ForPlans
for_plans = all_in_time

-- and for every table that is read and planned, as its plan stands
pub demand_3 : Demand3
demand_3 bs read planned =
    let g = table_good bs (reading_of bs) refl read in
    let t = table_in (reading_of bs) in
    for_plans t (plan_in (planned_of t)) g (plan_stands t g planned)
