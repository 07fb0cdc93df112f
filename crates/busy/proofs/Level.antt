-- The busy window, over functions of the tick alone. A level is a task's work on a processor, with all work there that goes before it:
-- `left` is what was released before a tick and is left of it, `new` what is released in the tick, `ran` the units that run of it, and
-- `others` the units of work that is not of the level. All that is known is known below a horizon n.
use Prim.Native.Nat.{ℕ, zero, suc, ◌+◌, ◌≤◌, ◌<◌}
use mathlib.Core.Path.{◌≡◌}
use native.Mathlib.Nat.{add-suc, add-zero}
use native.Mathlib.Decide.{dec_le, ℕ_discrete}
use native.Mathlib.Omega.{arith}
use Rattle.lists.specs.Total.{total}
use Rattle.lists.proofs.Total.{total-add, total_ones}
use Rattle.busy.proofs.Window.{window, by_strong, LastZero, last-zero, Quiet, at, never, quiet?}

-- what is known of a level
pub record Level (n : ℕ) : Type 1 where
  pub left : ℕ → ℕ
  pub new : ℕ → ℕ
  pub ran : ℕ → ℕ
  pub others : ℕ → ℕ
  -- the task's own work is released at r, and d is its bound
  pub Own : ℕ → ℕ → Type 0
  -- what others may run while the level has work, as that bound has it
  pub blocking : (r d : ℕ) → Own r d → ℕ
  pub empty : left 0 ≡ 0
  pub flow : (t : ℕ) → t < n → left (suc t) + ran t ≡ left t + new t
  -- where the level has work, a unit runs
  pub works : (t : ℕ) → t < n → 1 ≤ left t + new t → 1 ≤ ran t + others t
  pub blocked : (r d : ℕ) (o : Own r d) (t0 m : ℕ) → t0 + m ≤ n → ((j : ℕ) → j < m → 1 ≤ left (t0 + j) + new (t0 + j)) → window others t0 m ≤ blocking r d o
  pub long : (r d : ℕ) → Own r d → 1 ≤ d
  pub some : (r d : ℕ) → Own r d → 1 ≤ new r
  pub apart : (r d r' d' : ℕ) → Own r d → Own r' d' → r < r' → r + d ≤ r'
  -- the bound covers what is released in a window with one own release, and the blocking
  pub covers : (r d : ℕ) (o : Own r d) (t0 : ℕ) → ((t d' : ℕ) → t0 ≤ t → t < t0 + d → Own t d' → t ≡ r) → window new t0 d + blocking r d o ≤ d

module _ {n : ℕ} (v : Level n) where
  -- what is left and what ran is what was left and what was released
  balance : (t0 m : ℕ) → t0 + m ≤ n → v.left (t0 + m) + window v.ran t0 m ≡ v.left t0 + window v.new t0 m
  unfolding total
  balance t0 zero h = rw (add-zero t0) (omega arith)
  balance t0 (suc m) h = rw (add-suc t0 m) (omega (arith, balance t0 m (omega arith), v.flow (t0 + m) (omega arith)))

  -- after an own release at r with the bound d nothing of the level is left at some tick in (r, r + d]
  abbrev Done : ℕ → Type 0
  Done r = (d : ℕ) → v.Own r d → r + d ≤ n → (u : ℕ) × (r < u) × (u ≤ r + d) × (v.left u ≡ 0)

  -- it is so at r, if it is so at each release before
  one : (r : ℕ) → ((m : ℕ) → m < r → Done m) → Done r
  one r earlier d o h = go (quiet? v.left r d)
    where
      -- the last tick up to r at which nothing of the level is left: the window begins there
      z : LastZero v.left r
      z = last-zero v.left v.empty r

      -- nothing of its own is released in the window but at r: what was released before r had a quiet tick after it
      alone : (t d' : ℕ) → z.at ≤ t → t < z.at + d → v.Own t d' → t ≡ r
      alone t d' a b o' = three (ℕ_discrete t r) (dec_le (suc t) r)
        where
          before : t < r → ⊥
          before lt =
              let apart = v.apart t d' r d o' o lt in
              let (u, from, upto, quiet) = earlier t lt d' o' (omega arith) in
              omega (arith, z.later u (omega arith) (omega arith))

          three : Dec (t ≡ r) → Dec (t < r) → t ≡ r
          three (yes e) x = e
          three (no e) (yes lt) = absurd (before lt)
          three (no e) (no nl) = absurd (omega (arith, v.apart r d t d' o o' (omega arith), z.low))

      -- if no tick of (r, r + d] is quiet, the level has work in each tick of the window
      stirs : ((u : ℕ) → r < u → u ≤ r + d → 1 ≤ v.left u) → (j : ℕ) → j < d → 1 ≤ v.left (z.at + j) + v.new (z.at + j)
      stirs nv j hj = by (dec_le (suc (z.at + j)) r) (ℕ_discrete (z.at + j) r)
        where
          by : Dec (z.at + j < r) → Dec (z.at + j ≡ r) → 1 ≤ v.left (z.at + j) + v.new (z.at + j)
          by (yes lt) e = omega (arith, v.flow (z.at + j) (omega arith), z.later (suc (z.at + j)) (omega arith) (omega arith))
          by (no nl) (yes e) = rw e (omega (arith, v.some r d o))
          by (no nl) (no e) = omega (arith, nv (z.at + j) (omega arith) (omega (arith, z.low)))

      -- so that d units run in the window, as many as its bound covers, and nothing is left at its end
      over : ((u : ℕ) → r < u → u ≤ r + d → 1 ≤ v.left u) → ⊥
      over nv =
          let low = z.low in
          let st = stirs nv in
          let units = total_ones d (λ j. v.ran (z.at + j) + v.others (z.at + j)) (λ j hj. v.works (z.at + j) (omega arith) (st j hj)) in
          let both = total-add d (λ j. v.ran (z.at + j)) (λ j. v.others (z.at + j)) in
          let few = v.blocked r d o z.at d (omega arith) st in
          let all = v.covers r d o z.at alone in
          let none : v.left (z.at + d) ≡ 0 = omega (arith, balance z.at d (omega arith), z.here) in
          end (dec_le (z.at + d) r) none
        where
          end : Dec (z.at + d ≤ r) → v.left (z.at + d) ≡ 0 → ⊥
          end (yes b) e = omega (arith, z.later (z.at + d) (omega (arith, v.long r d o)) b)
          end (no b) e = omega (arith, nv (z.at + d) (omega arith) (omega (arith, z.low)))

      go : Quiet v.left r d → (u : ℕ) × (r < u) × (u ≤ r + d) × (v.left u ≡ 0)
      go (at u a b e) = (u, a, b, e)
      go (never nv) = absurd (over nv)

  -- after an own release at r nothing of the level is left at some tick in (r, r + d]
  pub done : (r d : ℕ) → v.Own r d → r + d ≤ n → (u : ℕ) × (r < u) × (u ≤ r + d) × (v.left u ≡ 0)
  done = by_strong Done one
