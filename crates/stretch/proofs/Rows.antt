-- A row that runs on: a tick takes one unit of the part that its processor picks, and nothing else.
use Prim.Native.Nat.{ℕ, suc, ◌+◌, ◌-◌, ◌<◌}
use mathlib.Core.Path.{◌≡◌, refl, ◌∙◌, ap}
use mathlib.Core.Bool.{Bool, true, false, cond}
use mathlib.Core.List.{List}
use native.Mathlib.Omega.{arith}
use borrow.Author.Tests.{lt-ltb, eq-eqb, eqb-true}
use lib.ListN.{get_or}
use lib.Dec.{eqb}
use Rattle.chain.specs.declared.Place.{Place}
use Rattle.chain.specs.declared.Place.TheVariants.{Idle, Waiting, Running}
use Rattle.chain.specs.declared.Job.{Job}
use Rattle.chain.specs.Release.{due_of}
use Rattle.chain.specs.Unit.{pushed}
use Rattle.chain.proofs.Pushed.{unit_pushed, place_pushed, due_pushed}
use Rattle.picks.specs.Pick.{home}
use Rattle.machine.specs.Tick.{serve_at, serve, kind_of, noted_at}
use Rattle.stretch.specs.Push.{push_row_at, push_row}

module _ (rows homes : List ℕ) (t k i : ℕ) (x : Job) where
  -- the row's job is pushed where a processor picks its part, or is as it was
  pub push_cases : (P : Job → Type 0) → P x → ((j l : ℕ) → x.place ≡ Running j l → get_or rows (home homes i j) 0 ≡ suc i → P (pushed t k x j l)) → P (push_row rows homes t k i x)
  unfolding push_row_at
  push_cases P same runs = go x.place refl
    where
      by_test : (b : Bool) (j l : ℕ) → x.place ≡ Running j l → eqb (get_or rows (home homes i j) 0) (suc i) ≡ b → P (cond b (pushed t k x j l) x)
      by_test true j l e q = runs j l e (eqb-true _ _ q)
      by_test false j l e q = same

      go : (p : Place) → x.place ≡ p → P (push_row_at rows homes t k i x p)
      go Idle e = same
      go (Waiting u j) e = same
      go (Running j l) e = by_test (eqb (get_or rows (home homes i j) 0) (suc i)) j l e refl

  -- where a processor picks it
  pub push_runs : (j l : ℕ) → x.place ≡ Running j l → get_or rows (home homes i j) 0 ≡ suc i → push_row rows homes t k i x ≡ pushed t k x j l
  unfolding push_row_at
  push_runs j l e p = ap (push_row_at rows homes t k i x) e ∙ rw (eq-eqb _ _ p)

  -- its next release stays, and so does the kind of what it runs
  pub due_push : (bounds : List ℕ) → due_of bounds i (push_row rows homes t k i x) ≡ due_of bounds i x
  due_push bounds = push_cases (λ y. due_of bounds i y ≡ due_of bounds i x) refl (λ j l e p. due_pushed t k x j l bounds i e)

  pub kind_push : kind_of (push_row rows homes t k i x).place ≡ kind_of x.place
  unfolding kind_of
  kind_push = push_cases (λ y. kind_of y.place ≡ kind_of x.place) refl (λ j l e p. rw (place_pushed t k x j l e, e))

  -- a unit more of a part that does not end with it;
  pub serve_push : (bounds : List ℕ) → ((j l : ℕ) → x.place ≡ Running j l → get_or rows (home homes i j) 0 ≡ suc i → suc k < l)
      → serve rows bounds homes (t + k) i (push_row rows homes t k i x) ≡ push_row rows homes t (suc k) i x
  unfolding serve_at push_row_at
  serve_push bounds lasts = go x.place refl
    where
      by_test : (b : Bool) (j l : ℕ) → x.place ≡ Running j l → eqb (get_or rows (home homes i j) 0) (suc i) ≡ b → serve rows bounds homes (t + k) i (cond b (pushed t k x j l) x) ≡ cond b (pushed t (suc k) x j l) x
      by_test true j l e q = ap (serve_at rows bounds homes (t + k) i (pushed t k x j l)) (place_pushed t k x j l e) ∙ rw q (unit_pushed t k x j l bounds i (lasts j l e (eqb-true _ _ q)))
      by_test false j l e q = ap (serve_at rows bounds homes (t + k) i x) e ∙ rw q

      go : (p : Place) → x.place ≡ p → serve rows bounds homes (t + k) i (push_row_at rows homes t k i x p) ≡ push_row_at rows homes t (suc k) i x p
      go Idle e = ap (serve_at rows bounds homes (t + k) i x) e
      go (Waiting u j) e = ap (serve_at rows bounds homes (t + k) i x) e
      go (Running j l) e = by_test (eqb (get_or rows (home homes i j) 0) (suc i)) j l e refl

  -- and then no response is noted
  pub not_noted : (bounds : List ℕ) (u j l : ℕ) → x.place ≡ Running j l → get_or rows (home homes i j) 0 ≡ suc i → suc k < l
      → (worst : List ℕ) → noted_at bounds u i (push_row rows homes t k i x) (push_row rows homes t k i x).place worst ≡ worst
  unfolding noted_at
  not_noted bounds u j l e p h worst =
      rw (push_runs j l e p, place_pushed t k x j l e, lt-ltb 1 (l - k) (omega arith))
