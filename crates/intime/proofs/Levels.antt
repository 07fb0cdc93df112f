-- The machine as a level of the busy window: row k's section, or its stages, on processor q, with all that goes before them there.
use Prim.Native.Nat.{ℕ, suc, ◌+◌, ◌-◌, ◌*◌, ◌≤◌, ◌<◌}
use mathlib.Core.Path.{◌≡◌, refl, sym, ap, subst}
use mathlib.Core.Bool.{Bool, true, false, cond, not, ◌&&◌}
use mathlib.Core.List.{List}
use native.Mathlib.Nat.{le_refl, le_trans}
use native.Mathlib.Decide.{dec_le}
use native.Mathlib.Omega.{arith}
use borrow.Author.Tests.{eqb-true, eq-eqb}
use lib.Dec.{eqb}
use Rattle.lists.specs.Total.{total}
use Rattle.lists.proofs.Tests.{both}
use Rattle.lists.proofs.Total.{total-zero, total_spike}
use Rattle.lists.proofs.Tab.{get_or-blank}
use Rattle.bounds.specs.Demand.{ceil}
use Rattle.busy.proofs.Window.{window}
use Rattle.chain.specs.declared.Place.TheVariants.{Running}
use Rattle.chain.specs.declared.Job.{Job}
use Rattle.chain.specs.Job.{no_job}
use Rattle.chain.proofs.Row.{left, left_running, new, new_at_lem}
use Rattle.picks.specs.Pick.{is_section, home}
use Rattle.machine.specs.Tick.{jobs_at}
use Rattle.intime.proofs.Releases.{Release, Order, same, before, after, is_release, order, long, new_le, new_ceil}
use Rattle.intime.proofs.System.{System, on, sum, count, homes, rank, bound, job, mid, runner}
use Rattle.intime.proofs.Ticks.{Ok, mid_running, falls, mid_left, one_unit}
use Rattle.intime.proofs.Sums.{sum_mono, sum-part, sum-either, sum-last, sum_balance, window_sum}

-- the sum over the level of the task of rank k: f of its parts of the kind on processor q, and of those of the better-ranked tasks
module _ (s : System) (section : Bool) (q : ℕ) where
  abbrev level_sum : ℕ → (ℕ → ℕ → ℕ) → ℕ
  level_sum k f = sum (suc k) (λ r j. cond (on (homes s) section q (s.row r) j) (f (s.row r) j) 0)

  -- what is released of a part of the kind, there, in a tick
  abbrev part_new : ℕ → ℕ → ℕ → ℕ
  part_new i j t = cond (on (homes s) section q i j) (new s.chart.bounds i (s.ar i) j t) 0

module _ (s : System) (section : Bool) (q k : ℕ) where
  -- what was released before tick t and is left of it
  unfoldable pub left_at : ℕ → ℕ
  left_at t = level_sum s section q k (λ i j. left (job s t i).place j)

  -- what is released in tick t
  unfoldable pub new_at : ℕ → ℕ
  new_at t = level_sum s section q k (λ i j. new s.chart.bounds i (s.ar i) j t)

  -- the units that run in tick t
  unfoldable pub ran_at : ℕ → ℕ
  ran_at t = level_sum s section q k (λ i j. left (mid s t i).place j - left (job s (suc t) i).place j)

  -- nothing is left at the start: every task is idle
  pub empty : left_at 0 ≡ 0
  unfolding left_at job jobs_at left
  empty = total-zero (suc k) _ (λ r hr. total-zero 3 _ (λ j hj. idle r j (on (homes s) section q (s.row r) j)))
    where
      idle : (r j : ℕ) (b : Bool) → cond b (left (job s 0 (s.row r)).place j) 0 ≡ 0
      idle r j true = ap (λ (x : Job). left x.place j) (get_or-blank 64 no_job (s.row r))
      idle r j false = refl

-- the kind and the processor of a part
on_told : (hs : List ℕ) (section : Bool) (q i j : ℕ) → on hs section q i j ≡ true → (is_section j ≡ section) × (home hs i j ≡ q)
unfolding on
on_told hs section q i j h =
    let (a, b) = both (cond section (is_section j) (not (is_section j))) (eqb (home hs i j) q) h in
    (kind section (is_section j) a, eqb-true (home hs i j) q b)
  where
    kind : (c b : Bool) → cond c b (not b) ≡ true → b ≡ c
    kind true b e = e
    kind false true e = sym e
    kind false false e = refl

told_on : (hs : List ℕ) (section : Bool) (q i j : ℕ) → is_section j ≡ section → home hs i j ≡ q → on hs section q i j ≡ true
unfolding on
told_on hs section q i j e f = rw (e, eq-eqb (home hs i j) q f) (kind section)
  where
    kind : (c : Bool) → (cond c c (not c) && true) ≡ true
    kind true = refl
    kind false = refl

-- the row of a rank up to k's
level_row : (s : System) (k : ℕ) → k < count s → (r : ℕ) → r < suc (rank s k) → (s.row r < count s) × (rank s (s.row r) ≤ rank s k)
level_row s k hk r hr = let (real, is) = s.rows r (omega (arith, s.ranked k hk)) in (real, omega arith)

module _ (s : System) (section : Bool) (q k : ℕ) where
  -- a part of the kind, there, of a task ranked at least as well, counts in the level
  in_level : (f : ℕ → ℕ → ℕ) (i j : ℕ) → i < count s → rank s i ≤ rank s k → j < 3 → is_section j ≡ section → home (homes s) i j ≡ q
      → f i j ≤ level_sum s section q (rank s k) f
  in_level f i j hi better hj kind there =
      le_trans
      (subst (λ (x : ℕ). f i j ≤ cond (on (homes s) section q x j) (f x j) 0) (sym (s.back i hi)) (rw (told_on (homes s) section q i j kind there) (le_refl (f i j))))
      (sum-part (suc (rank s k)) (rank s i) j (λ r e. cond (on (homes s) section q (s.row r) e) (f (s.row r) e) 0) (omega arith) hj)

module _ (s : System) (n : ℕ) (oks : (t : ℕ) → t < n → Ok s t) (section : Bool) (q k : ℕ) (hk : k < count s) where
  -- what is left and what ran is what was left and what was released: part by part
  pub flow : (t : ℕ) → t < n → left_at s section q (rank s k) (suc t) + ran_at s section q (rank s k) t ≡ left_at s section q (rank s k) t + new_at s section q (rank s k) t
  unfolding left_at new_at ran_at
  flow t ht = sum_balance (suc (rank s k)) _ _ _ _ (λ r j hr hj. by (s.row r) j (level_row s k hk r hr).0 hj (on (homes s) section q (s.row r) j))
    where
      by : (i j : ℕ) → i < count s → j < 3 → (b : Bool)
          → cond b (left (job s (suc t) i).place j) 0 + cond b (left (mid s t i).place j - left (job s (suc t) i).place j) 0
          ≡ cond b (left (job s t i).place j) 0 + cond b (new s.chart.bounds i (s.ar i) j t) 0
      by i j hi hj true = omega (arith, falls s t (oks t ht) i j hi, mid_left s t (oks t ht) i j hi hj)
      by i j hi hj false = refl

  -- a part of the level that has work once the releases are in
  pub record Work (t : ℕ) : Type 0 where
    pub task : ℕ
    pub part : ℕ
    pub rest : ℕ
    pub real : task < count s
    pub better : rank s task ≤ rank s k
    pub kind : is_section part ≡ section
    pub there : home (homes s) task part ≡ q
    pub at : (mid s t task).place ≡ Running part rest

  -- where the level has work, one of its parts does, and it runs
  pub pend : (t : ℕ) → t < n → 1 ≤ left_at s section q (rank s k) t + new_at s section q (rank s k) t → Work t
  unfolding left_at new_at
  pend t ht p =
      let (r, j, hr, hj, w) = sum-either (suc (rank s k)) _ _ p in
      make r j hr hj (on (homes s) section q (s.row r) j) refl w
    where
      make : (r j : ℕ) → r < suc (rank s k) → j < 3 → (b : Bool) → on (homes s) section q (s.row r) j ≡ b
          → 1 ≤ cond b (left (job s t (s.row r)).place j) 0 + cond b (new s.chart.bounds (s.row r) (s.ar (s.row r)) j t) 0 → Work t
      make r j hr hj false e w = absurd (omega arith)
      make r j hr hj true e w =
          let (real, better) = level_row s k hk r hr in
          let (l, at) = left_running (mid s t (s.row r)).place j (omega (arith, mid_left s t (oks t ht) (s.row r) j real hj)) in
          let (kind, there) = on_told (homes s) section q (s.row r) j e in
          record { task = s.row r; part = j; rest = l; real = real; better = better; kind = kind; there = there; at = at }

  -- the picked part of the level counts
  pub level_unit : (t : ℕ) → t < n → (i j l : ℕ) → i < count s → (mid s t i).place ≡ Running j l → is_section j ≡ section → home (homes s) i j ≡ q → rank s i ≤ rank s k
      → runner s t q ≡ suc i → 1 ≤ ran_at s section q (rank s k) t
  unfolding ran_at
  level_unit t ht i j l hi e kind there better r =
      let inside = (mid_running s t (oks t ht) i j l hi e).inside in
      let unit = one_unit s t (oks t ht) i j l hi e (rw there r) in
      le_trans (omega arith) (in_level s section q k (λ x y. left (mid s t x).place y - left (job s (suc t) x).place y) i j hi better inside kind there)

  -- an own part of positive length is released at r, and its bound is d
  pub record Own (r d : ℕ) : Type 0 where
    pub part : ℕ
    pub rel : Release s.chart.bounds k (s.ar k) r part
    pub kind : is_section part ≡ section
    pub there : home (homes s) k part ≡ q
    pub dist : d ≡ bound s k part

  -- releases of one row, of row k: each has a bound, and two are apart
  pub own_long : (r d : ℕ) → Own r d → 1 ≤ d
  own_long r d o = omega (arith, long s.chart.bounds k (s.ar k) (s.period k) (s.len k) (s.fit k hk) r o.part o.rel)

  -- two own releases are in order
  own_order : (r d r' d' : ℕ) (o : Own r d) (o' : Own r' d') → Order s.chart.bounds k (s.ar k) r o.part r' o'.part
  own_order r d r' d' o o' = order s.chart.bounds k (s.ar k) (s.period k) (s.len k) (s.fit k hk) r o.part r' o'.part o.rel o'.rel

  -- the next own part is released when the bound of the one before is over
  pub own_apart : (r d r' d' : ℕ) → Own r d → Own r' d' → r < r' → r + d ≤ r'
  own_apart r d r' d' o o' lt = go (own_order r d r' d' o o')
    where
      go : Order s.chart.bounds k (s.ar k) r o.part r' o'.part → r + d ≤ r'
      go (same e f) = absurd (omega arith)
      go (before g) = omega (arith, o.dist)
      go (after g) = absurd (omega arith)

  -- no two own parts are released in one tick
  own_one : (r d r' d' : ℕ) → r ≡ r' → (o : Own r d) (o' : Own r' d') → o.part ≡ o'.part
  own_one r d r' d' at o o' = go (own_order r d r' d' o o')
    where
      go : Order s.chart.bounds k (s.ar k) r o.part r' o'.part → o.part ≡ o'.part
      go (same e f) = f
      go (before g) = absurd (omega (arith, own_long r d o))
      go (after g) = absurd (omega (arith, own_long r' d' o'))

  -- an own part that is released is released by the level
  pub own_some : (r d : ℕ) → Own r d → 1 ≤ new_at s section q (rank s k) r
  unfolding new_at
  own_some r d o =
      let x = o.rel in
      let whole = new_at_lem s.chart.bounds k (s.ar k) o.part x.when r x.lens x.came x.is in
      le_trans (omega arith) (in_level s section q k (λ i j. new s.chart.bounds i (s.ar i) j r) k o.part hk (le_refl (rank s k)) x.inside o.kind o.there)

  -- the better-ranked parts release no more in d ticks than their demand counts
  better_new : (t0 d : ℕ) → sum (rank s k) (λ r j. window (part_new s section q (s.row r) j) t0 d)
      ≤ sum (rank s k) (λ r j. cond (on (homes s) section q (s.row r) j) (ceil d (s.period (s.row r)) * s.len (s.row r) j) 0)
  better_new t0 d = sum_mono (rank s k) _ _ (λ r j hr hj. by (s.row r) j (level_row s k hk r (omega arith)).0 hj (on (homes s) section q (s.row r) j))
    where
      by : (i j : ℕ) → i < count s → j < 3 → (b : Bool) → window (λ t. cond b (new s.chart.bounds i (s.ar i) j t) 0) t0 d ≤ cond b (ceil d (s.period i) * s.len i j) 0
      by i j hi hj true = new_ceil s.chart.bounds i (s.ar i) (s.period i) (s.len i) (s.fit i hi) j t0 d hj (s.positive i hi)
      by i j hi hj false = omega (arith, total-zero d (λ x. 0) (λ x hx. refl))

  -- d ticks from t0 on, in which own parts are released at r alone, where d is the bound of one that is
  module _ (r d : ℕ) (o : Own r d) (t0 : ℕ) (alone : (t d' : ℕ) → t0 ≤ t → t < t0 + d → Own t d' → t ≡ r) where
    -- no other own release is in the window
    quiet : (j t : ℕ) → j < 3 → t0 ≤ t → t < t0 + d → (t ≡ r → j ≡ o.part → ⊥) → part_new s section q k j t ≡ 0
    quiet j t hj from to other = go (on (homes s) section q k j) refl (dec_le 1 (new s.chart.bounds k (s.ar k) j t))
      where
        go : (b : Bool) → on (homes s) section q k j ≡ b → Dec (1 ≤ new s.chart.bounds k (s.ar k) j t) → cond b (new s.chart.bounds k (s.ar k) j t) 0 ≡ 0
        go false e c = refl
        go true e (no c) = omega arith
        go true e (yes c) =
            let (kind, there) = on_told (homes s) section q k j e in
            let x : Own t (bound s k j) = record { part = j; rel = is_release s.chart.bounds k (s.ar k) j t hj c; kind = kind; there = there; dist = refl } in
            let at = alone t (bound s k j) from to x in
            absurd (other at (own_one t (bound s k j) r d at x o))

    -- that part is released once at most, with no more than its length
    once : window (part_new s section q k o.part) t0 d ≤ s.len k o.part
    once =
        total_spike d (r - t0) (s.len k o.part) _
        (λ x hx ne. quiet o.part (t0 + x) o.rel.inside (omega arith) (omega arith) (λ e f. ne (omega arith)))
        (λ hx.
        rw (told_on (homes s) section q k o.part o.kind o.there)
        (new_le s.chart.bounds k (s.ar k) (s.period k) (s.len k) (s.fit k hk) o.part (t0 + (r - t0)) o.rel.inside))

    -- and no other own part is
    own_new : total 3 (λ j. window (part_new s section q k j) t0 d) ≤ s.len k o.part
    own_new = total_spike 3 o.part (s.len k o.part) _ (λ j hj ne. total-zero d _ (λ x hx. quiet j (t0 + x) hj (omega arith) (omega arith) (λ e. ne))) (λ hj. once)

    -- what the bound covers: its demand is that of its kind, on its processor, at d
    covered : s.len k o.part + cond section (s.block k) 0
        + sum (rank s k) (λ e j. cond (on (homes s) section q (s.row e) j) (ceil d (s.period (s.row e)) * s.len (s.row e) j) 0) ≤ d
    covered =
        let x = o.rel in
        let timed : 1 ≤ s.len k o.part = omega (arith, (s.fit k hk).lengths x.when x.lens x.came o.part x.inside) in
        rw (o.kind, o.there, ← o.dist) at (s.covers k o.part hk x.inside timed)

    -- the bound covers what the level releases in a window with one own release, and what may block
    pub own_covers : window (new_at s section q (rank s k)) t0 d + cond section (s.block k) 0 ≤ d
    unfolding new_at
    own_covers =
        let swapped = window_sum (suc (rank s k)) (λ e j. part_new s section q (s.row e) j) t0 d in
        let last = sum-last (rank s k) (λ e j. window (part_new s section q (s.row e) j) t0 d) in
        let own = subst (λ (i : ℕ). total 3 (λ j. window (part_new s section q i j) t0 d) ≤ s.len k o.part) (sym (s.back k hk)) own_new in
        omega (arith, better_new t0 d, covered)

  -- what is left of an own part is left of the level
  pub own_left : (u j : ℕ) → j < 3 → is_section j ≡ section → home (homes s) k j ≡ q → left_at s section q (rank s k) u ≡ 0 → left (job s u k).place j ≡ 0
  unfolding left_at
  own_left u j hj kind there z = omega (arith, in_level s section q k (λ x y. left (job s u x).place y) k j hk (le_refl (rank s k)) hj kind there)
