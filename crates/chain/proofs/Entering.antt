-- Where a job is once the releases of a tick are in, one part after the other.
use Prim.Native.Nat.{ℕ, zero, suc, ◌+◌, ◌-◌, ◌≤◌, ◌<◌}
use mathlib.Core.Path.{◌≡◌, refl}
use mathlib.Core.Bool.{cond}
use mathlib.Core.List.{List}
use native.Mathlib.Omega.{arith}
use native.Mathlib.Numerals.{add-one}
use borrow.Author.Tests.{le-leb, lt-leb}
use lib.Dec.{leb}
use lib.ListN.{get_or}
use Rattle.chain.specs.Job.{Place, Waiting, Running}
use Rattle.chain.specs.Release.{release, starts, enter}

module _ (bounds : List ℕ) (i a : ℕ) (ls : List ℕ) (t : ℕ) where
  -- where the job is from part j on
  abbrev from : ℕ → Place
  from j = enter bounds i a ls t (3 - j) j

  -- one part more
  from_step : (j : ℕ) → j < 3 → from j ≡ cond (leb (release bounds i a j) t) (starts bounds i j (get_or ls j 0) (from (j + 1))) (Waiting (release bounds i a j) j)
  unfolding enter
  from_step j h = let e : 3 - j ≡ suc (3 - (j + 1)) = omega arith in rw (e, add-one)

  -- a part that is not due is waited for
  pub from_waits : (j : ℕ) → j < 3 → t < release bounds i a j → from j ≡ Waiting (release bounds i a j) j
  from_waits j h l = rw (from_step j h, lt-leb (release bounds i a j) t l)

  -- one that is due and takes time runs
  pub from_runs : (j : ℕ) → j < 3 → release bounds i a j ≤ t → 0 < get_or ls j 0 → from j ≡ Running j (get_or ls j 0)
  unfolding starts
  from_runs j h l p = rw (from_step j h, le-leb (release bounds i a j) t l) (go (get_or ls j 0) p)
    where
      go : (n : ℕ) → 0 < n → starts bounds i j n (from (j + 1)) ≡ Running j n
      go zero p = absurd (omega arith)
      go (suc n) p = refl

  -- "A stage of actual length 0 ends at its release"
  pub from_next : (j : ℕ) → j < 3 → release bounds i a j ≤ t → get_or ls j 0 ≡ 0 → from j ≡ from (j + 1)
  unfolding starts
  from_next j h l p = rw (from_step j h, le-leb (release bounds i a j) t l, p)
