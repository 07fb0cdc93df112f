-- What each row's job keeps from tick to tick, and what is counted of it.
use Prim.Native.Nat.{ℕ, zero, suc, ◌+◌, ◌≤◌}
use mathlib.Core.Path.{◌≡◌, refl, ap}
use mathlib.Core.Bool.{Bool, true, false, cond}
use mathlib.Core.List.{List}
use Rattle.std.specs.Prelude.{Option, Some, None}
use native.Mathlib.Omega.{arith}
use borrow.Author.Tests.{not-false}
use lib.Dec.{leb}
use lib.ListN.{get_or, length}
use Rattle.lists.proofs.Tests.{neither}
use Rattle.chain.specs.declared.Place.{Place}
use Rattle.chain.specs.declared.Place.TheVariants.{Idle, Waiting, Running}
use Rattle.chain.specs.declared.Job.{Job}
use Rattle.chain.specs.Job.{no_job, moved}
use Rattle.chain.specs.Release.{release, starts, enter, wake, admit, released, too_soon, late}
use Rattle.chain.specs.Unit.{unit_of}
use Rattle.chain.specs.Owed.{lens_from}
use Rattle.chain.specs.Good.{part_of, GoodJob}
use Rattle.chain.proofs.Cases.{wake_cases, next_cases, unit_cases}
use Rattle.chain.proofs.Counts.{Counted, lens_none, lens_wake, lens_unit}
use Rattle.chain.proofs.Keeps.{HasLeft, left_at, good_wake, good_arrival, left_enter, left_released, good_unit, left_unit}
use Rattle.machine.specs.Tick.{serve}
use Rattle.machine.proofs.Keep.{serve_cases}

-- the part that runs has a length above 0
abbrev HasLength : List ℕ → Place → Type 0
HasLength ls Idle = Unit {0}
HasLength ls (Waiting u j) = Unit {0}
HasLength ls (Running j l) = 1 ≤ get_or ls j 0

-- the job of a row whose section in the table is `a` long
pub record Sound (a : ℕ) (x : Job) : Type 0 where
  pub good : GoodJob x
  pub left : HasLeft x.place
  pub long : HasLength x.lens x.place
  pub whole : lens_from 3 x.lens ≡ 0
  pub section : get_or x.lens 1 0 ≤ a

-- what an arrival brings
pub record Fits (a t : ℕ) (ls : List ℕ) : Type 0 where
  pub tick : t ≤ 1000000
  pub three : length ls ≡ 3
  pub section : get_or ls 1 0 ≤ a

-- a task that has not arrived is sound
pub sound_none : (a : ℕ) → Sound a no_job
unfolding lens_from
sound_none a = record { good = record { arrived = omega arith; part = omega arith }; left = tt; long = tt; whole = refl; section = omega arith }

module _ (bounds : List ℕ) (i t : ℕ) where
  -- a job that enters its chain runs nothing of length 0
  long_enter : (arrived n j : ℕ) (ls : List ℕ) → HasLength ls (enter bounds i arrived ls t n j)
  unfolding enter starts
  long_enter arrived zero j ls = tt
  long_enter arrived (suc n) j ls = go (leb (release bounds i arrived j) t) (get_or ls j 0) refl (long_enter arrived n (suc j) ls)
    where
      go : (b : Bool) (l : ℕ) → get_or ls j 0 ≡ l → HasLength ls (enter bounds i arrived ls t n (suc j)) →
          HasLength ls (cond b (starts bounds i j l (enter bounds i arrived ls t n (suc j))) (Waiting (release bounds i arrived j) j))
      go true zero e h = h
      go true (suc l) e h = omega arith
      go false l e h = tt

  module _ (a : ℕ) (x : Job) where
    -- due releases keep a job sound;
    sound_wake : Sound a x → Sound a (wake bounds i t x)
    unfolding admit moved
    sound_wake s =
        record {
          good = good_wake bounds i t x s.good;
          left = left_released bounds i t x s.left None;
          long = wake_cases bounds i t (λ y. HasLength y.lens y.place) x s.long (λ u j e. long_enter x.arrived _ j x.lens);
          whole = rw (lens_wake bounds i t x) s.whole;
          section = rw (lens_wake bounds i t x) s.section;
        }

    -- the job of an arrival is;
    sound_arrival : (ls : List ℕ) → Fits a t ls → Sound a (admit bounds i t x (Some ls))
    unfolding admit moved
    sound_arrival ls f =
        record {
          good = good_arrival bounds i t x f.tick ls;
          left = left_enter bounds i t t 3 0 ls;
          long = long_enter t 3 0 ls;
          whole = lens_none 3 ls (omega (arith, f.three));
          section = f.section;
        }

    -- and a unit keeps it so
    sound_unit : (j l : ℕ) → x.place ≡ Running j l → Sound a x → Sound a (unit_of bounds i t x j l)
    unfolding moved
    sound_unit j l e s =
        let h : HasLength x.lens (Running j l) = rw e at s.long in
        record {
          good = good_unit bounds i t x j l s.good.arrived (omega (arith, s.good.part, ap part_of e));
          left = left_unit bounds i t x j l;
          long = unit_cases bounds i t (λ y. HasLength y.lens y.place) x j l (λ m. h) (λ m. next_cases bounds i (HasLength x.lens) x.arrived j (λ k. tt) (λ k. tt));
          whole = rw (lens_unit bounds i t x j l) s.whole;
          section = rw (lens_unit bounds i t x j l) s.section;
        }

-- what is added where an arrival brings these lengths, or none comes
abbrev pub added : (List ℕ → ℕ) → Option (List ℕ) → ℕ
added adds None = 0
added adds (Some ls) = adds ls

module _ (bounds : List ℕ) (i t a : ℕ) (x : Job) (s : Sound a x) where
  -- once the releases of the tick are in
  module _ (came : Option (List ℕ)) (fits : (ls : List ℕ) → came ≡ Some ls → Fits a t ls) where
    -- it is sound,
    pub sound_released : Sound a (released bounds i t x came)
    unfolding admit
    sound_released = go came refl
      where
        go : (o : Option (List ℕ)) → came ≡ o → Sound a (released bounds i t x o)
        go None e = sound_wake bounds i t a x s
        go (Some ls) e = sound_arrival bounds i t a (wake bounds i t x) ls (fits ls e)

    -- they add what an arrival adds: it comes to an idle task, or it is late
    pub released_count : (count : Job → ℕ) (adds : List ℕ → ℕ) → Counted count adds → late bounds i t x came ≡ false → count (released bounds i t x came) ≡ count x + added adds came
    unfolding late too_soon admit
    released_count count adds law = go came refl
      where
        go : (o : Option (List ℕ)) → came ≡ o → late bounds i t x o ≡ false → count (released bounds i t x o) ≡ count x + added adds o
        go None e h = omega (arith, law.woken bounds i t x s.good s.whole)
        go (Some ls) e h =
            omega (arith, law.woken bounds i t x s.good s.whole, law.admitted bounds i t (wake bounds i t x) ls (not-false _ (neither _ _ h).0) (lens_none 3 ls (omega (arith, (fits ls e).three))))

  -- after the units of the tick
  module _ (picked homes : List ℕ) where
    -- it is sound,
    pub sound_serve : Sound a (serve picked bounds homes t i x)
    sound_serve = serve_cases (Sound a) picked bounds homes t i x s (λ j l e. sound_unit bounds i t a x j l e s)

    -- and they change nothing that is counted
    pub serve_count : (count : Job → ℕ) (adds : List ℕ → ℕ) → Counted count adds → count (serve picked bounds homes t i x) ≡ count x
    serve_count count adds law =
        serve_cases (λ y. count y ≡ count x) picked bounds homes t i x refl
        (λ j l e. law.served bounds i t x j l e (omega (arith, s.good.part, ap part_of e)) (left_at x.place j l s.left e) s.whole)
