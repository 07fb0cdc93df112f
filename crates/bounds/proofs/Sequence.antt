-- The sequence of a search, once for every list of terms: it grows until a time covers, so where none does up to the limit, one of its
-- members is the first above it.
use Prim.Native.Nat.{ℕ, zero, suc, ◌+◌, ◌≤◌, ◌<◌}
use mathlib.Core.Path.{◌≡◌, refl, sym, ◌∙◌, ap}
use mathlib.Core.Bool.{Bool}
use mathlib.Core.List.{List}
use mathlib.Core.Logic.{dite}
use native.Mathlib.Omega.{arith}
use native.Mathlib.Decide.{dec_lt}
use borrow.Author.Tests.{ltb-true, ltb-false}
use lib.ListN.{length}
use lib.Dec.{ltb}
use Rattle.lists.specs.First.{first}
use Rattle.lists.proofs.First.{first_no, first_yes}
use Rattle.bounds.specs.Demand.{Term, demand, GoodTerms}
use Rattle.bounds.specs.Sequence.{sequence, first_above, Reached, Breaks}
use Rattle.bounds.proofs.Asked.{mono, demand-le}

module _ (terms : List Term) (own : ℕ) where
  -- no member is below the one before it,
  grows : (i : ℕ) → sequence terms own i ≤ own + demand terms (sequence terms own i)
  unfolding sequence
  grows zero = omega arith
  grows (suc i) = omega (arith, mono terms (grows i))

  -- and none is above a time that covers
  under : (i u : ℕ) → own + demand terms u ≤ u → sequence terms own i ≤ u
  unfolding sequence
  under zero u c = omega arith
  under (suc i) u c = omega (arith, mono terms (under i u c))

  module _ (limit : ℕ) where
    -- no time up to the limit covers what is asked for within it
    abbrev pub NoneCovers : Type 0
    NoneCovers = (u : ℕ) → u ≤ limit → own + demand terms u ≤ u → ⊥

    -- the search begins with the first member,
    pub reached_own : Reached terms own limit own
    unfolding sequence
    reached_own = record { place = 0; is = refl; before = λ j l. absurd (omega arith) }

    -- and goes on behind one that is not above the limit
    pub reached_next : (t : ℕ) → t ≤ limit → Reached terms own limit t → Reached terms own limit (own + demand terms t)
    unfolding sequence
    reached_next t l r =
        record {
          place = suc r.place;
          is = rw r.is;
          before = λ j h. dite (dec_lt j r.place) (λ s. r.before j s) (λ s. let e : j ≡ r.place = omega arith in rw (e, r.is) l);
        }

    -- what is reached is on the way up: it is asked for, and no time that covers is below it
    pub reached_up : (t : ℕ) → Reached terms own limit t → t ≤ own + demand terms t
    reached_up t r = rw r.is at (grows r.place)

    pub reached_under : (t : ℕ) → Reached terms own limit t → (u : ℕ) → own + demand terms u ≤ u → t ≤ u
    reached_under t r u c = omega (arith, under r.place u c, r.is)

    -- behind a member above the limit no time up to it covers
    pub breaks_none : (v : ℕ) → Breaks terms own limit v → NoneCovers
    breaks_none v (r, a) u l c = omega (arith, reached_under v r u c)

    -- one value at most breaks a limit
    pub breaks_one : (v w : ℕ) → Breaks terms own limit v → Breaks terms own limit w → v ≡ w
    breaks_one v w (x, a) (y, b) =
        dite (dec_lt x.place y.place) (λ l. absurd (omega (arith, y.before x.place l, x.is)))
        (λ l. dite (dec_lt y.place x.place) (λ k. absurd (omega (arith, x.before y.place k, y.is)))
        (λ k.
        let e : x.place ≡ y.place = omega arith in
        sym x.is ∙ ap (sequence terms own) e ∙ y.is))

    module _ (some : 1 ≤ own) (none : NoneCovers) where
      -- a member behind none above the limit is larger than its place
      climbs : (i : ℕ) → ((j : ℕ) → j < i → sequence terms own j ≤ limit) → i < sequence terms own i
      unfolding sequence
      climbs zero h = some
      climbs (suc i) h =
          let u = sequence terms own i in
          dite (dec_lt u (own + demand terms u))
          (λ l. omega (arith, climbs i (λ j s. h j (omega arith))))
          (λ l. absurd (none u (h i (omega arith)) (omega arith)))

      -- so one of members 0 to `limit` is above the limit, and `first_above` is where the first is
      pub above_breaks : Breaks terms own limit (sequence terms own (first_above terms own limit))
      unfolding first_above
      above_breaks = (record { place = x; is = refl; before = before }, above)
        where
          test : ℕ → Bool
          test i = ltb limit (sequence terms own i)

          x : ℕ
          x = first (suc limit) test

          before : (j : ℕ) → j < x → sequence terms own j ≤ limit
          before j l = ltb-false limit (sequence terms own j) (first_no (suc limit) test j l)

          above : limit < sequence terms own x
          above =
              dite (dec_lt x (suc limit))
              (λ l. ltb-true limit (sequence terms own x) (first_yes (suc limit) test l))
              (λ l. absurd (omega (arith, before limit (omega arith), climbs limit (λ j s. before j (omega arith)))))

-- what breaks a limit of a good table fits into 32 bits: it is asked for within a time that is not above the limit
pub breaks_small : (terms : List Term) (own limit v : ℕ) → GoodTerms terms → length terms ≤ 64 → own ≤ 2000000 → limit ≤ 1000000 → Breaks terms own limit v → v ≤ 130000000
unfolding sequence
breaks_small terms own limit v g few a b (r, above) = go r.place r.is r.before
  where
    go : (i : ℕ) → sequence terms own i ≡ v → ((j : ℕ) → j < i → sequence terms own j ≤ limit) → v ≤ 130000000
    go zero e h = omega arith
    go (suc i) e h = omega (arith, demand-le terms (sequence terms own i) g (omega (arith, h i (omega arith))))
