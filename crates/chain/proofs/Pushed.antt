-- Units run together are the same units one by one.
use Prim.Native.Nat.{ℕ, zero, suc, ◌+◌, ◌-◌, ◌≤◌, ◌<◌}
use mathlib.Core.Path.{◌≡◌, refl, sym, ap}
use mathlib.Core.List.{List}
use native.Mathlib.Omega.{arith}
use native.Mathlib.Nat.{add-zero, sub-zero}
use borrow.Author.Tests.{lt-ltb}
use Rattle.chain.specs.Job.{Place, Idle, Waiting, Running, Job}
use Rattle.chain.specs.Release.{due_at, due_of}
use Rattle.chain.specs.Unit.{mark, unit_of, pushed, push_at, push}
use Rattle.chain.specs.Good.{part_of, GoodJob}

-- the mark of a part that ran before stays
pub mark_stays : (t b : ℕ) → (b ≡ 0 → ⊥) → mark t b ≡ b
unfolding mark
mark_stays t zero h = absurd (h refl)
mark_stays t (suc b) h = refl

-- a mark that is set stays
mark_again : (t u b : ℕ) → mark u (mark t b) ≡ mark t b
unfolding mark
mark_again t u zero = refl
mark_again t u (suc b) = refl

-- one unit more of a part that does not end with it
pub unit_pushed : (t k : ℕ) (x : Job) (j l : ℕ) (bounds : List ℕ) (i : ℕ) → suc k < l → unit_of bounds i (t + k) (pushed t k x j l) j (l - k) ≡ pushed t (suc k) x j l
unfolding unit_of pushed
unit_pushed t zero x j l bounds i h = rw (sub-zero l, add-zero t, lt-ltb 1 l h)
unit_pushed t (suc k) x j l bounds i h =
    let a : l - suc k - 1 ≡ l - suc (suc k) = omega arith in
    let b : x.ran + suc k + 1 ≡ x.ran + suc (suc k) = omega arith in
    let m = mark_again t (t + suc k) x.begun in
    rw (lt-ltb 1 (l - suc k) (omega arith), a, b, m)

-- a part that runs on is the same part, and its job's next release the same;
pub place_pushed : (t k : ℕ) (x : Job) (j l : ℕ) → x.place ≡ Running j l → (pushed t k x j l).place ≡ Running j (l - k)
unfolding pushed
place_pushed t zero x j l e = rw (sub-zero l) e
place_pushed t (suc k) x j l e = refl

pub due_pushed : (t k : ℕ) (x : Job) (j l : ℕ) (bounds : List ℕ) (i : ℕ) → x.place ≡ Running j l → due_of bounds i (pushed t k x j l) ≡ due_of bounds i x
unfolding pushed due_at
due_pushed t zero x j l bounds i e = refl
due_pushed t (suc k) x j l bounds i e = sym (ap (due_at bounds i x.arrived) e)

-- one that ran before keeps its mark
pub begun_pushed : (t k : ℕ) (x : Job) (j l : ℕ) → 0 < x.begun → (pushed t k x j l).begun ≡ x.begun
unfolding pushed
begun_pushed t zero x j l h = refl
begun_pushed t (suc k) x j l h = mark_stays t x.begun (λ e. omega arith)

-- and one that starts has the mark of its first tick
pub begun_started : (t k : ℕ) (x : Job) (j l : ℕ) → x.begun ≡ 0 → (pushed t (suc k) x j l).begun ≡ suc t
unfolding pushed mark
begun_started t k x j l h = ap (mark t) h

-- what holds of the job, and of it with some units run, holds of the one that `push` leads to
push_cases : (P : Job → Type 0) (t k : ℕ) (x : Job) → P x → ((m j l : ℕ) → k ≡ suc m → x.place ≡ Running j l → P (pushed t (suc m) x j l)) → P (push t k x)
unfolding push_at pushed
push_cases P t k x same runs = go k refl x.place refl
  where
    go : (m : ℕ) → k ≡ m → (p : Place) → x.place ≡ p → P (push_at t m x p)
    go m d Idle e = same
    go m d (Waiting u j) e = same
    go zero d (Running j l) e = same
    go (suc m) d (Running j l) e = runs m j l d e

module _ (t k : ℕ) (x : Job) where
  -- a job that is pushed stays good, ends nothing, runs at most k units, and keeps its lengths
  pub good_push : GoodJob x → GoodJob (push t k x)
  unfolding pushed
  good_push g = push_cases GoodJob t k x g (λ m j l d e. record { arrived = g.arrived; part = rw (ap part_of e) at g.part })

  pub ended_push : (push t k x).ended ≡ x.ended
  unfolding pushed
  ended_push = push_cases (λ y. y.ended ≡ x.ended) t k x refl (λ m j l d e. refl)

  pub ran_push : (push t k x).ran ≤ x.ran + k
  unfolding pushed
  ran_push = push_cases (λ y. y.ran ≤ x.ran + k) t k x (omega arith) (λ m j l d e. omega arith)

  pub lens_push : (push t k x).lens ≡ x.lens
  unfolding pushed
  lens_push = push_cases (λ y. y.lens ≡ x.lens) t k x refl (λ m j l d e. refl)
