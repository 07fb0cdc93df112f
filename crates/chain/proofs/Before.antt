-- Before the next release of a job falls due, none changes it; and no release changes how many lengths it has.
use Prim.Native.Nat.{ℕ, suc, ◌<◌}
use mathlib.Core.Path.{◌≡◌, refl}
use mathlib.Core.Bool.{Bool, true, false, cond, ◌&&◌}
use mathlib.Core.List.{List}
use Rattle.std.specs.Prelude.{Option, Some, None}
use borrow.Author.Tests.{lt-leb}
use lib.Dec.{ltb, leb}
use lib.ListN.{length}
use Rattle.chain.specs.Job.{Place, Idle, Waiting, Running, Job, moved}
use Rattle.chain.specs.Release.{never, release, wake_at, wake, admit, released, overdue_at, overdue, too_soon, late, due_at, due_of}
use Rattle.chain.proofs.Cases.{wake_cases}

module _ (bounds : List ℕ) (i t : ℕ) (x : Job) where
  module _ (h : t < due_of bounds i x) where
    -- no release is due,
    wake_before : wake bounds i t x ≡ x
    unfolding wake_at due_at
    wake_before = go x.place h
      where
        go : (p : Place) → t < due_at bounds i x.arrived p → wake_at bounds i t x p ≡ x
        go Idle l = refl
        go (Waiting u j) l = rw (lt-leb u t l)
        go (Running j k) l = refl

    -- and no part is overdue
    overdue_before : overdue bounds i t x ≡ false
    unfolding overdue_at due_at
    overdue_before = go x.place h
      where
        part : (b : Bool) (u : ℕ) → t < cond b u never → (b && leb u t) ≡ false
        part true u l = lt-leb u t l
        part false u l = refl

        go : (p : Place) → t < due_at bounds i x.arrived p → overdue_at bounds i t x.arrived p ≡ false
        go Idle l = refl
        go (Waiting u j) l = refl
        go (Running j k) l = part (ltb j 2) (release bounds i x.arrived (suc j)) l

    -- where no arrival comes, the job stays as it is,
    pub released_before : released bounds i t x None ≡ x
    unfolding admit
    released_before = wake_before

    -- and nothing of it comes too early
    pub late_before : late bounds i t x None ≡ false
    unfolding late too_soon admit
    late_before = rw wake_before overdue_before

  -- the lengths of a job are three, if those that an arrival brings are
  pub lens_released : length x.lens ≡ 3 → (came : Option (List ℕ)) → ((ls : List ℕ) → came ≡ Some ls → length ls ≡ 3) → length (released bounds i t x came).lens ≡ 3
  unfolding admit moved
  lens_released h None f = wake_cases bounds i t (λ y. length y.lens ≡ 3) x h (λ u j e. h)
  lens_released h (Some ls) f = f ls refl
