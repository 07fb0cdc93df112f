-- The order of an arrival and the one before it.
use Prim.Native.Nat.{ℕ, zero, suc, ◌-◌, ◌≤◌, ◌<◌}
use mathlib.Core.Path.{◌≡◌, refl, sym}
use mathlib.Core.List.{List}
use mathlib.Core.Bool.{true, false, not}
use mathlib.Core.Logic.{dite}
use native.Mathlib.Omega.{arith}
use native.Mathlib.Decide.{dec_lt}
use borrow.Author.Tests.{lt-ltb, le-ltb, le-leb, lt-leb, eq-eqb, ne_eqb}
use lib.Dec.{ltb, leb}
use Rattle.arrivals.specs.Arrival.{Arrival, arrival_at}
use Rattle.arrivals.specs.Check.{behind, disordered}

-- not below is at least
not_lt : (a b : ℕ) → not (ltb a b) ≡ leb b a
not_lt a b = dite (dec_lt a b) (λ h. rw (lt-ltb a b h, lt-leb b a h)) (λ h. rw (le-ltb a b (omega arith), le-leb b a (omega arith)))

-- the order of an arrival y and the one before it, x
by_order : (xs : List Arrival) (k : ℕ) (x y : Arrival) → arrival_at xs (k - 1) ≡ x → arrival_at xs k ≡ y → (k ≡ 0 → ⊥) → disordered xs k ≡ not (behind x y)
unfolding disordered
by_order xs zero x y p q pos = absurd (pos refl)
by_order xs (suc k) x y p q pos =
    let e : suc k - 1 ≡ k = omega arith in
    let r : arrival_at xs k ≡ x = rw e at p in
    rw (r, q)

module _ (xs : List Arrival) (k : ℕ) (x y : Arrival) (p : arrival_at xs (k - 1) ≡ x) (q : arrival_at xs k ≡ y) (pos : k ≡ 0 → ⊥) where
  -- a later tick
  pub tick_later : x.tick < y.tick → disordered xs k ≡ false
  tick_later l = rw (by_order xs k x y p q pos, lt-ltb _ _ l)

  -- an earlier tick
  pub tick_earlier : y.tick < x.tick → disordered xs k ≡ true
  tick_earlier l =
      let n : x.tick ≡ y.tick → ⊥ = λ e. omega arith in
      let m : y.tick ≤ x.tick = omega arith in
      rw (by_order xs k x y p q pos, le-ltb _ _ m, ne_eqb _ _ n)

  -- the same tick
  pub tick_same : y.tick ≡ x.tick → disordered xs k ≡ leb y.row x.row
  tick_same e =
      let m : y.tick ≤ x.tick = omega arith in
      rw (by_order xs k x y p q pos, le-ltb _ _ m, eq-eqb _ _ (sym e)) (not_lt x.row y.row)
