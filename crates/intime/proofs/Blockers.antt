-- What runs while a level has work, and that its work ends within its bound: nothing else runs before stages, and before sections at most one
-- section of a lower rank.
use Prim.Native.Nat.{ℕ, zero, suc, ◌+◌, ◌≤◌, ◌<◌}
use mathlib.Core.Path.{◌≡◌, refl, sym, ap, ◌∙◌, subst}
use mathlib.Core.Bool.{Bool, true, false, cond}
use mathlib.Core.Logic.{◌⊎◌, inl, inr}
use native.Mathlib.Nat.{add-suc, add-zero}
use native.Mathlib.Decide.{dec_le, ℕ_discrete}
use native.Mathlib.Omega.{arith}
use borrow.Author.Tests.{lt-ltb, le-ltb, eqb-true, eqb-false}
use lib.Dec.{ltb}
use Rattle.lists.specs.Total.{total}
use Rattle.lists.proofs.Total.{total-zero}
use Rattle.busy.proofs.Window.{window}
use Rattle.busy.proofs.Level.{Level, done}
use Rattle.chain.specs.declared.Place.TheVariants.{Running}
use Rattle.chain.specs.declared.Job.{Job}
use Rattle.chain.proofs.Row.{left, IsRunning, Fine}
use Rattle.picks.specs.Pick.{is_section, home}
use Rattle.picks.proofs.Cases.{Section, Stage, starting, going_on, nothing, staged}
use Rattle.intime.proofs.Releases.{Release}
use Rattle.intime.proofs.System.{System, count, homes, rank, top_of, bound, job, mid, runner}
use Rattle.intime.proofs.Ticks.{Ok, Picked, picks_in, lens_le, mid_running, held_old, mid_stacked, Origin, kept, born, origin}
use Rattle.intime.proofs.Levels.{left_at, new_at, ran_at, empty, flow, Work, pend, level_unit, Own, own_long, own_apart, own_some, own_covers, own_left}

-- 1 where the row that runs, numbered from 1, is ranked below k
outside : System → ℕ → ℕ → ℕ
outside s k zero = 0
outside s k (suc x) = cond (ltb (rank s k) (rank s x)) 1 0

-- a lower row is outside, any other is not
outside_yes : (s : System) (k x o : ℕ) → o ≡ suc x → rank s k < rank s x → outside s k o ≡ 1
unfolding outside
outside_yes s k x o e h = rw (e, lt-ltb (rank s k) (rank s x) h) refl

outside_no : (s : System) (k x o : ℕ) → o ≡ suc x → rank s x ≤ rank s k → outside s k o ≡ 0
unfolding outside
outside_no s k x o e h = rw (e, le-ltb (rank s k) (rank s x) h) refl

-- the level has work once the releases of tick t are in
abbrev Busy : System → Bool → ℕ → ℕ → ℕ → Type 0
Busy s section q k t = 1 ≤ left_at s section q (rank s k) t + new_at s section q (rank s k) t

module _ (s : System) (n : ℕ) (oks : (t : ℕ) → t < n → Ok s t) (q k : ℕ) (hk : k < count s) where
  -- the levels of stages and of sections differ in what else runs while they have work, and in how much of it
  level : (section : Bool) (others : ℕ → ℕ) → ((t : ℕ) → t < n → Busy s section q k t → 1 ≤ ran_at s section q (rank s k) t + others t)
      → ((r d : ℕ) → Own s n oks section q k hk r d → (t0 m : ℕ) → t0 + m ≤ n → ((j : ℕ) → j < m → Busy s section q k (t0 + j))
      → window others t0 m ≤ cond section (s.block k) 0)
      → Level n
  level section others works blocked =
      record {
        left = left_at s section q (rank s k);
        new = new_at s section q (rank s k);
        ran = ran_at s section q (rank s k);
        others = others;
        Own = Own s n oks section q k hk;
        blocking = λ r d o. cond section (s.block k) 0;
        empty = empty s section q (rank s k);
        flow = flow s n oks section q k hk;
        works = works;
        blocked = blocked;
        long = own_long s n oks section q k hk;
        some = own_some s n oks section q k hk;
        apart = own_apart s n oks section q k hk;
        covers = own_covers s n oks section q k hk;
      }

  module _ (t : ℕ) (ht : t < n) where
    -- a section takes time, so that its ceiling is at or above its row's rank
    section_long : (i : ℕ) → i < count s → Section (homes s) q i (mid s t i) → 1 ≤ s.len i 1
    section_long i hi z =
        let f = mid_running s t (oks t ht) i 1 z.rest hi z.at in
        omega (arith, f.some_left, f.at_most, lens_le s (suc t) i 1 z.rest (mid s t i) hi f)

    section_top : (i : ℕ) → i < count s → Section (homes s) q i (mid s t i) → top_of s i ≤ rank s i
    section_top i hi z = s.top i hi (section_long i hi z)

    -- of two begun sections, the one begun later is ranked above the ceiling of the other
    later : (i d : ℕ) → i < count s → d < count s → Section (homes s) q i (mid s t i) → Section (homes s) q d (mid s t d)
        → 1 ≤ (mid s t d).begun → (mid s t d).begun ≤ (mid s t i).begun → (d ≡ i) ⊎ (rank s i < top_of s d)
    later i d hi hd zi zd b le =
        elim (ℕ_discrete (mid s t d).begun (mid s t i).begun) [
          | yes e ↦ inl (sym ((mid_stacked s t (oks t ht)).one q i d hi hd zi zd b e))
          | no e ↦ inr ((mid_stacked s t (oks t ht)).above q i d hi hd zi zd b (omega arith))
        ]

    -- the level's work, as a pick sees it
    the_stage : (w : Work s n oks false q k hk t) → Stage (homes s) q w.task (mid s t w.task)
    the_stage w = record { part = w.part; rest = w.rest; at = w.at; stage = w.kind; on = w.there }

    the_section : (w : Work s n oks true q k hk t) → Section (homes s) q w.task (mid s t w.task)
    the_section w =
        let one : w.part ≡ 1 = eqb-true w.part 1 w.kind in
        record { rest = w.rest; at = w.at ∙ ap (λ (j : ℕ). Running j w.rest) one; on = sym (ap (home (homes s) w.task) one) ∙ w.there }

    -- no section is where a stage of the level has work
    no_section : Work s n oks false q k hk t → (i : ℕ) → i < count s → Section (homes s) q i (mid s t i) → ⊥
    no_section w i hi z =
        s.split i w.task w.part hi w.real (mid_running s t (oks t ht) w.task w.part w.rest w.real w.at).inside
        (eqb-false w.part 1 w.kind) (section_long i hi z) (z.on ∙ sym w.there)

    -- so that the best stage runs, and it is of the level
    stage_works : Busy s false q k t → 1 ≤ ran_at s false q (rank s k) t + 0
    unfolding mid
    stage_works p = go (pend s n oks false q k hk t ht p) (picks_in s q t)
      where
        go : Work s n oks false q k hk t → Picked s q t → 1 ≤ ran_at s false q (rank s k) t + 0
        go w (starting x e hx z b f g) = absurd (no_section w x hx z)
        go w (going_on x e hx z b f g) = absurd (no_section w x hx z)
        go w (nothing e f g) = absurd (g w.task w.real (the_stage w))
        go w (staged x e hx f z g) =
            let r = g w.task w.real (the_stage w) in
            omega (arith, level_unit s n oks false q k hk t ht x z.part z.rest hx z.at z.stage z.on (omega (arith, w.better)) e)

  -- stages: what runs while the level has work is of the level
  stages : Level n
  stages = level false (λ t. 0) stage_works (λ r d o t0 m le st. omega (arith, total-zero m (λ j. 0) (λ j l. refl)))

  -- sections: it is of the level, or a begun section ranked below k whose ceiling is at or above k's rank
  data Who (t : ℕ) : Type 0 where
    member : outside s k (runner s t q) ≡ 0 → 1 ≤ ran_at s true q (rank s k) t → Who t
    blocker : (x : ℕ) → x < count s → runner s t q ≡ suc x → Section (homes s) q x (mid s t x) → 1 ≤ (mid s t x).begun
        → rank s k < rank s x → top_of s x ≤ rank s k → Who t

  -- the section that runs starts now, or was begun last of all that is held
  who : (t : ℕ) → t < n → Busy s true q k t → Who t
  unfolding mid
  who t ht p = go (pend s n oks true q k hk t ht p) (picks_in s q t)
    where
      is_member : (x : ℕ) → runner s t q ≡ suc x → x < count s → Section (homes s) q x (mid s t x) → rank s x ≤ rank s k → Who t
      is_member x e hx z better =
          member (outside_no s k x (runner s t q) e better) (level_unit s n oks true q k hk t ht x 1 z.rest hx z.at refl z.on better e)

      -- what was begun after a section with a ceiling at or above k's rank is that section, or of the level
      goes_on : (x : ℕ) → runner s t q ≡ suc x → x < count s → Section (homes s) q x (mid s t x) → 1 ≤ (mid s t x).begun
          → (d : ℕ) → d < count s → Section (homes s) q d (mid s t d) → 1 ≤ (mid s t d).begun → (mid s t d).begun ≤ (mid s t x).begun → top_of s d ≤ rank s k → Who t
      goes_on x e hx z b d hd y c le high = at (dec_le (rank s x) (rank s k)) (later t ht x d hx hd z y c le)
        where
          at : Dec (rank s x ≤ rank s k) → (d ≡ x) ⊎ (rank s x < top_of s d) → Who t
          at (yes better) o = is_member x e hx z better
          at (no worse) (inl same) = blocker x hx e z b (omega arith) (rw (sym same) high)
          at (no worse) (inr above) = absurd (omega arith)

      -- the level's work is begun and has a ceiling itself, or it is not begun and a ceiling that is held stops it
      go : Work s n oks true q k hk t → Picked s q t → Who t
      go w pk = by (the_section t ht w) (section_top t ht w.task w.real (the_section t ht w)) (dec_le 1 (mid s t w.task).begun) pk
        where
          by : Section (homes s) q w.task (mid s t w.task) → top_of s w.task ≤ rank s w.task → Dec (1 ≤ (mid s t w.task).begun) → Picked s q t → Who t
          by y top (yes old) (starting x e hx z b f g) = is_member x e hx z (omega (arith, g w.task w.real y old, w.better))
          by y top (no new) (starting x e hx z b f g) = is_member x e hx z (omega (arith, f w.task w.real y (omega arith), w.better))
          by y top (yes old) (going_on x e hx z b f g) = goes_on x e hx z b w.task w.real y old (f w.task w.real y old) (omega (arith, w.better))
          by y top (no new) (going_on x e hx z b f g) =
              let (d, hd, held, c, high) = g w.task w.real y (omega arith) in
              goes_on x e hx z b d hd held c (f d hd held c) (omega (arith, w.better))
          by y top begun (nothing e f g) = absurd (f w.task w.real y)
          by y top begun (staged x e hx f z g) = absurd (f w.task w.real y)

  -- either way a unit runs
  section_works : (t : ℕ) → t < n → Busy s true q k t → 1 ≤ ran_at s true q (rank s k) t + outside s k (runner s t q)
  section_works t ht p = go (who t ht p)
    where
      go : Who t → 1 ≤ ran_at s true q (rank s k) t + outside s k (runner s t q)
      go (member e r) = omega arith
      go (blocker x hx e z b worse high) = omega (arith, outside_yes s k x (runner s t q) e worse)

  -- at most one section blocks the level: of two, the one begun later would be ranked above the ceiling of the other, and so above k
  one_blocker : (t : ℕ) → t < n → (x y : ℕ) → x < count s → y < count s → Section (homes s) q x (mid s t x) → Section (homes s) q y (mid s t y)
      → 1 ≤ (mid s t x).begun → 1 ≤ (mid s t y).begun → rank s k < rank s x → rank s k < rank s y → top_of s x ≤ rank s k → top_of s y ≤ rank s k → x ≡ y
  one_blocker t ht x y hx hy zx zy bx by wx wy cx cy =
      elim (dec_le (mid s t x).begun (mid s t y).begun) [
        | yes le ↦ elim (later t ht y x hy hx zy zx bx le) [ inl e ↦ e | inr lt ↦ absurd (omega arith) ]
        | no gt ↦ elim (later t ht x y hx hy zx zy by (omega arith)) [ inl e ↦ sym e | inr lt ↦ absurd (omega arith) ]
      ]

  -- what each blocker among the jobs has left, with u units more, is within the blocking term
  abbrev Fits : (ℕ → Job) → ℕ → Type 0
  Fits x u = (i : ℕ) → i < count s → (z : Section (homes s) q i (x i)) → 1 ≤ (x i).begun → rank s k < rank s i → top_of s i ≤ rank s k → u + z.rest ≤ s.block k

  -- blockers ran u units up to tick t, and these and what each has left are within the blocking term
  record Owes (t u : ℕ) : Type 0 where
    so_far : u ≤ s.block k
    still : Fits (job s t) u

  -- it stays so: a unit of the only blocker is one less to run, and no blocker starts while the level has work
  owes_next : (t u : ℕ) → t < n → Busy s true q k t → Owes t u → Owes (suc t) (u + outside s k (runner s t q))
  owes_next t u ht p o =
      record {
        so_far = ran (who t ht p);
        still = λ x hx z b worse high. rest x hx z worse high (who t ht p) (origin s t (oks t ht) q x hx z b);
      }
    where
      -- the releases begin no section
      owed : Fits (mid s t) u
      owed x hx z b worse high =
          let e = held_old s t (oks t ht) x hx b in
          let old : Section (homes s) q x (job s t x) = record { rest = z.rest; at = sym (ap (λ (y : Job). y.place) e) ∙ z.at; on = z.on } in
          o.still x hx old (omega (arith, ap (λ (y : Job). y.begun) e)) worse high

      ran : Who t → u + outside s k (runner s t q) ≤ s.block k
      ran (member e r) = omega (arith, o.so_far)
      ran (blocker x hx e z b worse high) =
          omega (arith, outside_yes s k x (runner s t q) e worse, owed x hx z b worse high, (mid_running s t (oks t ht) x 1 z.rest hx z.at).some_left)

      rest : (x : ℕ) → x < count s → (z : Section (homes s) q x (job s (suc t) x)) → rank s k < rank s x → top_of s x ≤ rank s k
          → Who t → Origin s t q x z → u + outside s k (runner s t q) + z.rest ≤ s.block k
      rest x hx z worse high (member e r) (kept m b same le one) = omega (arith, owed x hx m b worse high)
      rest x hx z worse high (member e r) (born m b runs same) = absurd (omega (arith, outside_yes s k x (runner s t q) runs worse))
      rest x hx z worse high (blocker y hy e zy by wy cy) (kept m b same le one) =
          let xy = one_blocker t ht x y hx hy m zy b by worse wy high cy in
          omega (arith, owed x hx m b worse high, outside_yes s k y (runner s t q) e wy, one (rw xy e))
      rest x hx z worse high (blocker y hy e zy by wy cy) (born m b runs same) =
          absurd (let xy : x ≡ y = cc in omega (arith, ap (λ (i : ℕ). (mid s t i).begun) xy))

  -- it is so at first: a begun section has run a unit, and the blocking term has all the others
  owes_first : home (homes s) k 1 ≡ q → (t : ℕ) → t < n → Owes t 0
  owes_first there t ht = record { so_far = omega arith; still = rest }
    where
      rest : Fits (job s t) 0
      rest x hx z b worse high =
          let f : IsRunning s.chart.bounds x (s.ar x) t (job s t x) 1 z.rest =
          subst (Fine s.chart.bounds x (s.ar x) t (job s t x)) z.at ((oks t ht).fine x hx) in
          let spent = f.spent b in
          let le = lens_le s t x 1 z.rest (job s t x) hx f in
          omega (arith, s.room k x hk hx worse (z.on ∙ sym there) high)

  -- hence it is so all through a window in which the level has work
  owes : home (homes s) k 1 ≡ q → (t0 m : ℕ) → t0 < n → t0 + m ≤ n → ((j : ℕ) → j < m → Busy s true q k (t0 + j))
      → Owes (t0 + m) (window (λ t. outside s k (runner s t q)) t0 m)
  unfolding total
  owes there t0 zero lt le st = rw (add-zero t0) (owes_first there t0 lt)
  owes there t0 (suc m) lt le st =
      rw (add-suc t0 m)
      (owes_next (t0 + m) (window (λ t. outside s k (runner s t q)) t0 m) (omega arith) (st m (omega arith)) (owes there t0 m lt (omega arith) (λ j hj. st j (omega arith))))

  -- so that blockers run at most what the blocking term has
  budget : (t0 m : ℕ) → t0 + m ≤ n → home (homes s) k 1 ≡ q → ((j : ℕ) → j < m → Busy s true q k (t0 + j)) → window (λ t. outside s k (runner s t q)) t0 m ≤ s.block k
  unfolding total
  budget t0 zero le there st = omega arith
  budget t0 (suc m) le there st = (owes there t0 (suc m) (omega arith) le st).so_far

  -- sections: what else runs while the level has work is at most the blocking term
  sections : Level n
  sections = level true (λ t. outside s k (runner s t q)) section_works (λ r d o t0 m le. budget t0 m le (here o))
    where
      here : {r d : ℕ} → Own s n oks true q k hk r d → home (homes s) k 1 ≡ q
      here o = sym (ap (home (homes s) k) (eqb-true o.part 1 o.kind)) ∙ o.there

-- f is 0 at some tick in (r, r + d]
abbrev Within : ℕ → ℕ → (ℕ → ℕ) → Type 0
Within r d f = (u : ℕ) × (r < u) × (u ≤ r + d) × (f u ≡ 0)

-- what is released at r is done at some tick within its bound
pub finished : (s : System) (n : ℕ) → ((t : ℕ) → t < n → Ok s t) → (k : ℕ) → k < count s → (e r : ℕ) → Release s.chart.bounds k (s.ar k) r e → r + bound s k e ≤ n
    → (u : ℕ) × (r < u) × (u ≤ r + bound s k e) × (left (job s u k).place e ≡ 0)
unfolding stages sections level
finished s n oks k hk e r x le = go (is_section e) refl
  where
    own : (c : Bool) → is_section e ≡ c → Own s n oks c (home (homes s) k e) k hk r (bound s k e)
    own c kind = record { part = e; rel = x; kind = kind; there = refl; dist = refl }

    -- where nothing of the level is left, nothing of the part is
    out : (c : Bool) → is_section e ≡ c → Within r (bound s k e) (left_at s c (home (homes s) k e) (rank s k)) → Within r (bound s k e) (λ u. left (job s u k).place e)
    out c kind (u, a, b, z) = (u, a, b, own_left s n oks c (home (homes s) k e) k hk u e x.inside kind refl z)

    go : (c : Bool) → is_section e ≡ c → Within r (bound s k e) (λ u. left (job s u k).place e)
    go true kind = out true kind (done (sections s n oks (home (homes s) k e) k hk) r (bound s k e) (own true kind) le)
    go false kind = out false kind (done (stages s n oks (home (homes s) k e) k hk) r (bound s k e) (own false kind) le)
