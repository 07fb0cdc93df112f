-- What is counted of a job: neither a due release nor a unit changes it, and an arrival adds to it. So it is with the units that a job
-- has run and owes, and with the jobs of a row that have ended and the one that is still there.
use Prim.Native.Nat.{ℕ, zero, suc, ◌+◌, ◌-◌, ◌*◌, ◌≤◌, ◌<◌}
use mathlib.Core.Path.{◌≡◌, refl, sym, ◌∙◌, ap}
use mathlib.Core.Bool.{Bool, true, false, cond, not}
use mathlib.Core.List.{List, [], ◌∷◌}
use Rattle.std.specs.Prelude.{Some}
use native.Mathlib.Omega.{arith}
use lib.Dec.{leb}
use lib.ListN.{get_or, length, drop}
use Rattle.std.specs.List.{sum}
use Rattle.std.proofs.lemmas.List.Sums.{sum_by-cons}
use Rattle.lists.proofs.Tests.{clash}
use Rattle.chain.specs.Job.{Place, Idle, Waiting, Running, Job, no_job, is_idle, moved}
use Rattle.chain.specs.Release.{release, starts, enter, wake, fresh, admit}
use Rattle.chain.specs.Unit.{running, next, unit_of}
use Rattle.chain.specs.Owed.{lens_from, owes}
use Rattle.chain.specs.Good.{part_of, GoodJob}
use Rattle.chain.proofs.Cases.{next_cases, wake_cases, unit_cases}

-- what a job owes
abbrev pub owed : Job → ℕ
owed x = owes x.lens x.place

-- the length of part j, and those behind it
pub lens_step : (j : ℕ) (ls : List ℕ) → lens_from j ls ≡ get_or ls j 0 + lens_from (suc j) ls
unfolding lens_from
lens_step zero [] = refl
lens_step (suc j) [] = refl
lens_step zero (l ∷ ls) = refl
lens_step (suc j) (l ∷ ls) = lens_step j ls

-- past its last part a job owes nothing
pub lens_none : (j : ℕ) (ls : List ℕ) → length ls ≤ j → lens_from j ls ≡ 0
unfolding lens_from
lens_none j [] h = refl
lens_none zero (l ∷ ls) h = absurd (omega arith)
lens_none (suc j) (l ∷ ls) h = lens_none j ls (omega arith)

-- the lengths from part j on are summed up
pub lens_sum : (j : ℕ) (ls : List ℕ) → lens_from j ls ≡ sum (drop j ls)
unfolding lens_from
lens_sum zero [] = refl
lens_sum (suc j) [] = refl
lens_sum zero (l ∷ ls) = omega (arith, sum_by-cons (λ x. x) l ls, lens_sum zero ls)
lens_sum (suc j) (l ∷ ls) = lens_sum j ls

-- and each is at most a number of 32 bits
pub lens_small : (n j : ℕ) (ls : List ℕ) → length ls ≤ n + j → ((k : ℕ) → get_or ls k 0 < 4294967296) → lens_from j ls ≤ n * 4294967295
lens_small zero j ls h f = omega (arith, lens_none j ls (omega arith))
lens_small (suc n) j ls h f = omega (arith, lens_step j ls, lens_small n (suc j) ls (omega arith) f, f j)

-- and an idle task owes nothing
owes_idle : (ls : List ℕ) (p : Place) → is_idle p ≡ true → owes ls p ≡ 0
unfolding owes is_idle
owes_idle ls Idle e = refl
owes_idle ls (Waiting u j) e = clash cc
owes_idle ls (Running j l) e = clash cc

module _ (bounds : List ℕ) (i : ℕ) where
  -- a job that enters at part j owes the parts from there on
  owes_enter : (a t : ℕ) (ls : List ℕ) → lens_from 3 ls ≡ 0 → (n j : ℕ) → n + j ≡ 3 → owes ls (enter bounds i a ls t n j) ≡ lens_from j ls
  unfolding owes enter starts
  owes_enter a t ls z zero j h = let e : j ≡ 3 = omega arith in rw e (omega arith)
  owes_enter a t ls z (suc n) j h = go (leb (release bounds i a j) t) (get_or ls j 0) (lens_step j ls) (owes_enter a t ls z n (suc j) (omega arith))
    where
      go : (b : Bool) (l : ℕ) → lens_from j ls ≡ l + lens_from (suc j) ls → owes ls (enter bounds i a ls t n (suc j)) ≡ lens_from (suc j) ls → owes ls (cond b (starts bounds i j l (enter bounds i a ls t n (suc j))) (Waiting (release bounds i a j) j)) ≡ lens_from j ls
      go true zero s ih = omega arith
      go true (suc l) s ih = omega arith
      go false l s ih = refl

  -- a job whose part j has ended owes the parts behind it
  owes_next : (a j : ℕ) (ls : List ℕ) → lens_from 3 ls ≡ 0 → j < 3 → owes ls (next bounds i a j) ≡ lens_from (suc j) ls
  unfolding owes
  owes_next a j ls z h = next_cases bounds i (λ p. owes ls p ≡ lens_from (suc j) ls) a j (λ k. refl) (λ k. let e : suc j ≡ 3 = omega arith in rw e (omega arith))

  module _ (t : ℕ) (x : Job) where
    -- only an arrival changes the lengths
    pub lens_wake : (wake bounds i t x).lens ≡ x.lens
    unfolding moved
    lens_wake = wake_cases bounds i t (λ y. y.lens ≡ x.lens) x refl (λ u j e. refl)

    pub lens_unit : (j l : ℕ) → (unit_of bounds i t x j l).lens ≡ x.lens
    unfolding moved
    lens_unit j l = unit_cases bounds i t (λ y. y.lens ≡ x.lens) x j l (λ m. refl) (λ m. refl)

-- a count that is 0 at the start, that neither due releases nor units change, and to which an arrival at an idle task adds
pub record Counted (count : Job → ℕ) (adds : List ℕ → ℕ) : Type 0 where
  pub start : count no_job ≡ 0
  pub woken : (bounds : List ℕ) (i t : ℕ) (x : Job) → GoodJob x → lens_from 3 x.lens ≡ 0 → count (wake bounds i t x) ≡ count x
  pub admitted : (bounds : List ℕ) (i t : ℕ) (x : Job) (ls : List ℕ) → is_idle x.place ≡ true → lens_from 3 ls ≡ 0 → count (admit bounds i t x (Some ls)) ≡ count x + adds ls
  pub served : (bounds : List ℕ) (i t : ℕ) (x : Job) (j l : ℕ) → x.place ≡ Running j l → j < 3 → 1 ≤ l → lens_from 3 x.lens ≡ 0 → count (unit_of bounds i t x j l) ≡ count x

-- the units that a job has run and owes: an arrival adds its lengths
abbrev pub units_of : Job → ℕ
units_of x = x.ran + owed x

pub units_counted : Counted units_of (lens_from 0)
unfolding admit moved owes
units_counted =
    record {
      start = refl;
      woken = λ bounds i t x g z. wake_cases bounds i t (λ y. units_of y ≡ units_of x) x refl
          (λ u j e. omega (arith, owes_enter bounds i x.arrived t x.lens z (3 - j) j (omega (arith, g.part, ap part_of e)), ap (owes x.lens) e));
      admitted = λ bounds i t x ls e z. omega (arith, owes_idle x.lens x.place e, owes_enter bounds i t t ls z 3 0 (omega arith));
      served = λ bounds i t x j l e h p z. unit_cases bounds i t (λ y. units_of y ≡ units_of x) x j l
          (λ m. omega (arith, ap (owes x.lens) e))
          (λ m. omega (arith, owes_next bounds i x.arrived j x.lens z h, ap (owes x.lens) e));
    }

-- the jobs of a row that have ended, and the one that is still there: an arrival adds one
abbrev there : Place → ℕ
there p = cond (not (is_idle p)) 1 0

abbrev pub jobs_of : Job → ℕ
jobs_of x = x.ended + there x.place

-- a job that goes to a place is there, or it has ended
jobs_moved : (x : Job) (p : Place) → jobs_of (moved x p) ≡ x.ended + 1
unfolding moved
jobs_moved x p = go (is_idle p) refl
  where
    go : (b : Bool) → is_idle p ≡ b → jobs_of (moved x p) ≡ x.ended + 1
    go true e = rw e (omega arith)
    go false e = rw e (omega arith)

pub jobs_counted : Counted jobs_of (λ ls. 1)
unfolding admit is_idle
jobs_counted =
    record {
      start = refl;
      woken = λ bounds i t x g z. wake_cases bounds i t (λ y. jobs_of y ≡ jobs_of x) x refl
          (λ u j e. jobs_moved x _ ∙ sym (ap (λ (p : Place). x.ended + there p) e));
      admitted = λ bounds i t x ls e z. rw e (jobs_moved (fresh bounds i t x ls _) _ ∙ omega arith);
      served = λ bounds i t x j l e h p z. unit_cases bounds i t (λ y. jobs_of y ≡ jobs_of x) x j l
          (λ m. omega (arith, ap there e))
          (λ m. jobs_moved (running t x _) _ ∙ sym (ap (λ (q : Place). x.ended + there q) e));
    }
