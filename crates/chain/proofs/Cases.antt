-- What holds of each place, or of each job, that a step can lead to holds of the one that it leads to.
use Prim.Native.Nat.{ℕ, zero, suc, ◌+◌, ◌-◌, ◌≤◌, ◌<◌}
use mathlib.Core.Path.{◌≡◌, refl}
use mathlib.Core.Bool.{Bool, true, false, cond, not, ◌&&◌}
use mathlib.Core.List.{List}
use Rattle.std.specs.Prelude.{Option, Some, None, is_some}
use native.Mathlib.Omega.{arith}
use borrow.Author.Tests.{ltb-true, ltb-false}
use lib.Dec.{leb, ltb}
use lib.ListN.{get_or}
use Rattle.chain.specs.Job.{Place, Idle, Waiting, Running, Job, is_idle, moved}
use Rattle.chain.specs.Release.{release, starts, enter, wake_at, wake, fresh, admit, too_soon}
use Rattle.chain.specs.Unit.{running, next, unit_of}

module _ (bounds : List ℕ) (i : ℕ) (Q : Place → Type 0) (a : ℕ) where
  -- a job that enters its chain is idle, waits for a part or runs one
  pub enter_cases : (ls : List ℕ) (t n j : ℕ) → Q Idle → ((k : ℕ) → k < n + j → Q (Waiting (release bounds i a k) k)) → ((k l : ℕ) → k < n + j → Q (Running k (suc l))) → Q (enter bounds i a ls t n j)
  unfolding enter starts
  enter_cases ls t zero j e w r = e
  enter_cases ls t (suc n) j e w r = go (leb (release bounds i a j) t) (get_or ls j 0) (enter_cases ls t n (suc j) e (λ k h. w k (omega arith)) (λ k l h. r k l (omega arith)))
    where
      go : (b : Bool) (l : ℕ) → Q (enter bounds i a ls t n (suc j)) → Q (cond b (starts bounds i j l (enter bounds i a ls t n (suc j))) (Waiting (release bounds i a j) j))
      go true zero q = q
      go true (suc l) q = r j l (omega arith)
      go false l q = w j (omega arith)

  -- a part that has ended leads to the next one, or to idle
  pub next_cases : (j : ℕ) → (j < 2 → Q (Waiting (release bounds i a (suc j)) (suc j))) → (2 ≤ j → Q Idle) → Q (next bounds i a j)
  unfolding next
  next_cases j w e = go (ltb j 2) refl
    where
      go : (b : Bool) → ltb j 2 ≡ b → Q (cond b (Waiting (release bounds i a (suc j)) (suc j)) Idle)
      go true p = w (ltb-true j 2 p)
      go false p = e (ltb-false j 2 p)

module _ (bounds : List ℕ) (i t : ℕ) (P : Job → Type 0) (x : Job) where
  -- due releases leave a job as it is, or take a waiting one on
  pub wake_cases : P x → ((u j : ℕ) → x.place ≡ Waiting u j → P (moved x (enter bounds i x.arrived x.lens t (3 - j) j))) → P (wake bounds i t x)
  unfolding wake_at
  wake_cases s w = go x.place refl
    where
      due : (b : Bool) (u j : ℕ) → x.place ≡ Waiting u j → P (cond b (moved x (enter bounds i x.arrived x.lens t (3 - j) j)) x)
      due true u j e = w u j e
      due false u j e = s

      go : (p : Place) → x.place ≡ p → P (wake_at bounds i t x p)
      go Idle e = s
      go (Waiting u j) e = due (leb u t) u j e
      go (Running j l) e = s

  -- an arrival takes the job over; without one it stays
  pub admit_cases : P x → ((ls : List ℕ) → P (moved (fresh bounds i t x ls (enter bounds i t ls t 3 0)) (enter bounds i t ls t 3 0))) → (came : Option (List ℕ)) → P (admit bounds i t x came)
  unfolding admit
  admit_cases s w None = s
  admit_cases s w (Some ls) = w ls

  -- a unit leaves ticks of the part, or is its last
  pub unit_cases : (j l : ℕ) → (1 < l → P (running t x (Running j (l - 1)))) → (l ≤ 1 → P (moved (running t x (next bounds i x.arrived j)) (next bounds i x.arrived j))) → P (unit_of bounds i t x j l)
  unfolding unit_of
  unit_cases j l r e = go (ltb 1 l) refl
    where
      go : (b : Bool) → ltb 1 l ≡ b → P (cond b (running t x (Running j (l - 1))) (moved (running t x (next bounds i x.arrived j)) (next bounds i x.arrived j)))
      go true p = r (ltb-true 1 l p)
      go false p = e (ltb-false 1 l p)

  -- an arrival comes too early where its task is not idle
  pub soon : (came : Option (List ℕ)) → too_soon bounds i x came ≡ (is_some came && not (is_idle x.place))
  unfolding too_soon
  soon None = refl
  soon (Some ls) = refl
