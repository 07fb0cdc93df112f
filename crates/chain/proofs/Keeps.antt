-- What releases and units keep: a good job stays one, its counts grow by little, and a running part has something left.
use Prim.Native.Nat.{ℕ, zero, suc, ◌+◌, ◌-◌, ◌≤◌, ◌<◌}
use mathlib.Core.Path.{◌≡◌, refl, ◌∙◌, ap}
use mathlib.Core.Bool.{Bool, true, false, cond}
use mathlib.Core.List.{List}
use Rattle.std.specs.Prelude.{Option, Some, None}
use native.Mathlib.Omega.{arith}
use Rattle.chain.specs.Job.{Place, Idle, Waiting, Running, Job, is_idle, moved}
use Rattle.chain.specs.Release.{enter, wake, fresh, admit, released}
use Rattle.chain.specs.Unit.{mark, running, next, unit_of}
use Rattle.chain.specs.Good.{part_of, GoodJob}
use Rattle.chain.proofs.Cases.{enter_cases, next_cases, wake_cases, admit_cases, unit_cases}

-- a running part has at least one tick left
abbrev pub HasLeft : Place → Type 0
HasLeft Idle = Unit {0}
HasLeft (Waiting u j) = Unit {0}
HasLeft (Running j l) = 1 ≤ l

-- as a fact of the part
pub left_at : (p : Place) (j l : ℕ) → HasLeft p → p ≡ Running j l → 1 ≤ l
left_at p j l h e = rw e at h

-- a job that goes to another place ends at most once
ended_moved : (x : Job) (p : Place) → (moved x p).ended ≤ x.ended + 1
unfolding moved
ended_moved x p = go (is_idle p)
  where
    go : (b : Bool) → x.ended + cond b 1 0 ≤ x.ended + 1
    go true = omega arith
    go false = omega arith

-- the mark of a part that has run in tick t is not past the tick
pub mark-le : (t b : ℕ) → b ≤ suc t → mark t b ≤ suc t
unfolding mark
mark-le t zero h = omega arith
mark-le t (suc b) h = h

module _ (bounds : List ℕ) (i t : ℕ) where
  -- a job that enters its chain is at one of its parts,
  part_enter : (a n j : ℕ) (ls : List ℕ) → n + j ≤ 3 → part_of (enter bounds i a ls t n j) < 3
  part_enter a n j ls m = enter_cases bounds i (λ p. part_of p < 3) a ls t n j (omega arith) (λ k h. omega arith) (λ k l h. omega arith)

  -- and what it runs has ticks left
  pub left_enter : (a n j : ℕ) (ls : List ℕ) → HasLeft (enter bounds i a ls t n j)
  left_enter a n j ls = enter_cases bounds i HasLeft a ls t n j tt (λ k h. tt) (λ k l h. omega arith)

  module _ (x : Job) where
    -- due releases: the job stays good, ends at most once, runs and begins nothing, and what it runs has ticks left
    pub good_wake : GoodJob x → GoodJob (wake bounds i t x)
    unfolding moved
    good_wake g =
        wake_cases bounds i t GoodJob x g
        (λ u j e. record { arrived = g.arrived; part = part_enter x.arrived (3 - j) j x.lens (omega (arith, g.part, ap part_of e)) })

    pub ended_wake : (wake bounds i t x).ended ≤ x.ended + 1
    ended_wake = wake_cases bounds i t (λ y. y.ended ≤ x.ended + 1) x (omega arith) (λ u j e. ended_moved x (enter bounds i x.arrived x.lens t (3 - j) j))

    ran_wake : (wake bounds i t x).ran ≡ x.ran
    unfolding moved
    ran_wake = wake_cases bounds i t (λ y. y.ran ≡ x.ran) x refl (λ u j e. refl)

    begun_wake : (wake bounds i t x).begun ≤ x.begun
    unfolding moved
    begun_wake = wake_cases bounds i t (λ y. y.begun ≤ x.begun) x (omega arith) (λ u j e. omega arith)

    left_wake : HasLeft x.place → HasLeft (wake bounds i t x).place
    unfolding moved
    left_wake h = wake_cases bounds i t (λ y. HasLeft y.place) x h (λ u j e. left_enter x.arrived (3 - j) j x.lens)

    -- the job of an arrival is good, whatever was there before it
    pub good_arrival : t ≤ 1000000 → (ls : List ℕ) → GoodJob (admit bounds i t x (Some ls))
    unfolding admit moved
    good_arrival h ls = record { arrived = h; part = part_enter t 3 0 ls (omega arith) }

    -- an arrival, or none: the same
    good_admit : t ≤ 1000000 → GoodJob x → (came : Option (List ℕ)) → GoodJob (admit bounds i t x came)
    unfolding admit
    good_admit h g None = g
    good_admit h g (Some ls) = good_arrival h ls

    ended_admit : (came : Option (List ℕ)) → (admit bounds i t x came).ended ≤ x.ended + 1
    ended_admit = admit_cases bounds i t (λ y. y.ended ≤ x.ended + 1) x (omega arith) (λ ls. ended_moved (fresh bounds i t x ls (enter bounds i t ls t 3 0)) (enter bounds i t ls t 3 0))

    ran_admit : (came : Option (List ℕ)) → (admit bounds i t x came).ran ≡ x.ran
    unfolding moved
    ran_admit = admit_cases bounds i t (λ y. y.ran ≡ x.ran) x refl (λ ls. refl)

    begun_admit : (came : Option (List ℕ)) → (admit bounds i t x came).begun ≤ x.begun
    unfolding moved
    begun_admit = admit_cases bounds i t (λ y. y.begun ≤ x.begun) x (omega arith) (λ ls. omega arith)

    left_admit : HasLeft x.place → (came : Option (List ℕ)) → HasLeft (admit bounds i t x came).place
    unfolding moved
    left_admit h = admit_cases bounds i t (λ y. HasLeft y.place) x h (λ ls. left_enter t 3 0 ls)

  -- a job once the releases of the tick are in
  module _ (x : Job) where
    pub good_released : GoodJob x → t ≤ 1000000 → (came : Option (List ℕ)) → GoodJob (released bounds i t x came)
    good_released g h = good_admit (wake bounds i t x) h (good_wake x g)

    pub ended_released : (came : Option (List ℕ)) → (released bounds i t x came).ended ≤ x.ended + 2
    ended_released came = omega (arith, ended_wake x, ended_admit (wake bounds i t x) came)

    pub ran_released : (came : Option (List ℕ)) → (released bounds i t x came).ran ≡ x.ran
    ran_released came = ran_admit (wake bounds i t x) came ∙ ran_wake x

    pub begun_released : (came : Option (List ℕ)) → (released bounds i t x came).begun ≤ x.begun
    begun_released came = omega (arith, begun_wake x, begun_admit (wake bounds i t x) came)

    pub left_released : HasLeft x.place → (came : Option (List ℕ)) → HasLeft (released bounds i t x came).place
    left_released h = left_admit (wake bounds i t x) (left_wake x h)

  -- a job when its part j, with l ticks left, has run a unit
  module _ (x : Job) (j l : ℕ) where
    pub good_unit : x.arrived ≤ 1000000 → j < 3 → GoodJob (unit_of bounds i t x j l)
    unfolding moved
    good_unit a h =
        let part = next_cases bounds i (λ p. part_of p < 3) x.arrived j (λ k. omega arith) (λ k. omega arith) in
        unit_cases bounds i t GoodJob x j l (λ m. record { arrived = a; part = h }) (λ m. record { arrived = a; part = part })

    pub ended_unit : (unit_of bounds i t x j l).ended ≤ x.ended + 1
    ended_unit = unit_cases bounds i t (λ y. y.ended ≤ x.ended + 1) x j l (λ m. omega arith) (λ m. ended_moved (running t x (next bounds i x.arrived j)) (next bounds i x.arrived j))

    pub ran_unit : (unit_of bounds i t x j l).ran ≡ x.ran + 1
    unfolding moved
    ran_unit = unit_cases bounds i t (λ y. y.ran ≡ x.ran + 1) x j l (λ m. refl) (λ m. refl)

    pub begun_unit : x.begun ≤ t → (unit_of bounds i t x j l).begun ≤ suc t
    unfolding moved
    begun_unit h = unit_cases bounds i t (λ y. y.begun ≤ suc t) x j l (λ m. mark-le t x.begun (omega arith)) (λ m. omega arith)

    pub left_unit : HasLeft (unit_of bounds i t x j l).place
    unfolding moved
    left_unit =
        unit_cases bounds i t (λ y. HasLeft y.place) x j l (λ m. omega arith)
        (λ m. next_cases bounds i HasLeft x.arrived j (λ k. tt) (λ k. tt))
