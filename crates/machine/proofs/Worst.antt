-- The worst responses are those of the chart's n rows: past them every number stays 0.
use Prim.Native.Nat.{ℕ, zero, suc, ◌+◌, ◌*◌, ◌≤◌, ◌<◌}
use mathlib.Core.Path.{◌≡◌, refl, ◌∙◌}
use mathlib.Core.Bool.{Bool, true, false, cond}
use mathlib.Core.List.{List}
use native.Mathlib.Omega.{arith}
use lib.Dec.{ltb}
use lib.ListN.{get_or, set}
use lib.Seq.{get_or-set_other}
use Rattle.lists.proofs.Tab.{get_or-blank}
use Rattle.chain.specs.declared.Place.{Place}
use Rattle.chain.specs.declared.Place.TheVariants.{Idle, Waiting, Running}
use Rattle.chain.specs.declared.Job.{Job}
use Rattle.chain.specs.Job.{job_at}
use Rattle.chain.specs.Good.{GoodJob}
use Rattle.chain.proofs.Places.{part_small}
use Rattle.machine.specs.Chart.{Chart}
use Rattle.machine.specs.Tick.{Arrivals, noted_at, noted, noted_to, releases, picked, worse, jobs_at, released_at, worst_at}
use Rattle.machine.proofs.Keep.{good_releases, good_at, picked_row}

-- a response of one of n rows is noted at none of the places past them
module _ (bounds : List ℕ) (t : ℕ) (js : List Job) (n : ℕ) (good : (i : ℕ) → i < n → GoodJob (job_at js i)) (k : ℕ) (past : 3 * n ≤ k) where
  -- the row of one processor,
  noted_past : (row : ℕ) → row ≤ n → (worst : List ℕ) → get_or (noted bounds t js row worst) k 0 ≡ get_or worst k 0
  unfolding noted noted_at
  noted_past zero h worst = refl
  noted_past (suc i) h worst = go (job_at js i).place refl
    where
      ends : (b : Bool) (a v : ℕ) → (k ≡ a → ⊥) → get_or (cond b worst (set worst a v)) k 0 ≡ get_or worst k 0
      ends true a v f = refl
      ends false a v f = get_or-set_other worst a k v 0 f

      go : (p : Place) → (job_at js i).place ≡ p → get_or (noted_at bounds t i (job_at js i) p worst) k 0 ≡ get_or worst k 0
      go Idle e = refl
      go (Waiting u j) e = refl
      go (Running j l) e = ends (ltb 1 l) (3 * i + j) _ (λ d. omega (arith, part_small (job_at js i).place j l (good i h).part e))

  -- and those of the first q
  notes_past : (rows : List ℕ) → ((q : ℕ) → get_or rows q 0 ≤ n) → (q : ℕ) (worst : List ℕ) → get_or (noted_to bounds t js rows q worst) k 0 ≡ get_or worst k 0
  unfolding noted_to
  notes_past rows few zero worst = refl
  notes_past rows few (suc q) worst = noted_past (get_or rows (suc q) 0) (few (suc q)) (noted_to bounds t js rows q worst) ∙ notes_past rows few q worst

module _ (c : Chart) where
  -- so past row n the worst responses are 0
  pub worst_past : (ar : Arrivals) (t : ℕ) → t ≤ 1000000 → (k : ℕ) → 3 * c.n ≤ k → get_or (worst_at c ar t) k 0 ≡ 0
  unfolding worst_at worse released_at
  worst_past ar zero h k past = get_or-blank 192 0 k
  worst_past ar (suc t) h k past =
      let there = releases c.n c.bounds ar t (jobs_at c ar t) in
      let good = good_releases c.n c.bounds ar t (jobs_at c ar t) (good_at c ar t (omega arith)) (omega arith) in
      notes_past c.bounds t there c.n (λ i l. (good i l).0) k past (picked c there) (picked_row c there) c.m (worst_at c ar t)
      ∙ worst_past ar t (omega arith) k past
