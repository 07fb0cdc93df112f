-- The value that goes with the first task that fits no processor.
use Prim.Native.Nat.{ℕ, ◌+◌, ◌-◌, ◌≤◌, ◌<◌, zero-le}
use mathlib.Core.Path.{◌≡◌, refl, sym, ◌∙◌}
use mathlib.Core.List.{List}
use mathlib.Core.Bool.{true}
use mathlib.Core.Logic.{dite}
use native.Mathlib.Omega.{arith}
use native.Mathlib.Decide.{dec_lt}
use borrow.Author.Tests.{lt-ltb, le-ltb}
use lib.ListN.{get_or}
use Rattle.std.specs.Prelude.{Ok, Err}
use Rattle.lists.proofs.First.{first_yes}
use Rattle.lists.proofs.Smallest.{smallest_under, smallest_one}
use Rattle.bounds.specs.Terms.{terms_on}
use Rattle.bounds.proofs.Terms.{on_good, length-on}
use Rattle.stages.specs.Fit.{Fit, Place, nowhere, broke_fit, smallest_broke, place_among}
use Rattle.stages.specs.Good.{GoodStages}
use Rattle.stages.specs.Stage.{is_nowhere, broke_place, fit_on, placed, place_of, first_nowhere, nowhere_value}
use Rattle.stages.proofs.Fitting.{fit_small, place_out}
use Rattle.stages.proofs.Placing.{good_term}

-- v is the smallest of the values of processors s + 1 to m: none of them is smaller, and one is just that
abbrev IsSmallest : (ℕ → ℕ) → ℕ → ℕ → ℕ → Type 0
IsSmallest value s m v = ((p : ℕ) → s < p → p ≤ m → v ≤ value p) × ((p : ℕ) × (s < p) × (p ≤ m) × (v ≡ value p))

-- that is what a task without a place comes with
pub smallest_broke_lem : (fit : ℕ → Fit) (s m v : ℕ) → s < m → place_among fit s m ≡ nowhere v → IsSmallest (λ p. broke_fit (fit p)) s m v
unfolding smallest_broke
smallest_broke_lem fit s m v l h =
    let f : ℕ → ℕ = λ q. broke_fit (fit (s + 1 + q)) in
    let e = (place_out fit s m v h).1 in
    let (q, k, x) = smallest_one f (m - s) (omega arith) in (
      (λ p a b.
          let z : s + 1 + (p - (s + 1)) ≡ p = omega arith in
          let y : v ≤ f (p - (s + 1)) = omega (arith, e, smallest_under f (m - s) (p - (s + 1)) (omega arith)) in
          rw z at y),
      (s + 1 + q, omega arith, omega arith, sym e ∙ x),
    )

module _ (periods c1s c2s works sections : List ℕ) (s m n : ℕ) where
  -- the first task that fits none, of n, and the value that keeps it from fitting processor p
  abbrev pub stuck : ℕ
  stuck = first_nowhere periods c1s c2s works sections s m n

  abbrev pub stuck_on : ℕ → ℕ
  stuck_on p = broke_fit (fit_on periods c1s c2s works sections s m (placed periods c1s c2s works sections s m stuck) stuck p)

  -- v is the smallest of these
  abbrev pub SmallestStuck : ℕ → Type 0
  SmallestStuck v = IsSmallest stuck_on s m v

  -- and so is the value
  pub nowhere_smallest : s < m → stuck < n → SmallestStuck (nowhere_value periods c1s c2s works sections s m n)
  unfolding nowhere_value place_of first_nowhere
  nowhere_smallest l h = rw (lt-ltb stuck n h) (go (place_among fit s m) refl (first_yes n (λ j. is_nowhere (place_of periods c1s c2s works sections s m j)) h))
    where
      fit : ℕ → Fit
      fit = fit_on periods c1s c2s works sections s m (placed periods c1s c2s works sections s m stuck) stuck

      go : (x : Place) → place_among fit s m ≡ x → is_nowhere x ≡ true → SmallestStuck (broke_place x)
      go (Ok x) e q = cc
      go (Err v) e q = smallest_broke_lem fit s m v.value l e

  -- it fits into 32 bits
  pub nowhere_small : GoodStages periods c1s c2s works sections n s m → nowhere_value periods c1s c2s works sections s m n ≤ 130000000
  unfolding nowhere_value fit_on
  nowhere_small g = dite (dec_lt stuck n) some (λ l. rw (le-ltb stuck n (omega arith)) zero-le)
    where
      homes : List ℕ
      homes = placed periods c1s c2s works sections s m stuck

      each : stuck < n → (p : ℕ) → stuck_on p ≤ 130000000
      each l p =
          let t = g.period stuck l in
          let w = g.work stuck l in
          fit_small (terms_on periods works homes p stuck) (get_or c1s stuck 0) (get_or c2s stuck 0) (get_or sections stuck 0) (get_or periods stuck 0)
          (on_good periods works homes p stuck (λ i h. good_term periods c1s c2s works sections s m n g i (omega arith)))
          (omega (arith, length-on periods works homes p stuck, g.few))
          (omega (arith, w.0, w.1, t.1))
          (omega (arith, w.0, w.1, t.1))
          t.1
          (g.section stuck l)

      some : stuck < n → nowhere_value periods c1s c2s works sections s m n ≤ 130000000
      some l = omega (arith, (nowhere_smallest g.processors.0 l).0 (s + 1) (omega arith) (omega (arith, g.processors.0)), each l (s + 1))
