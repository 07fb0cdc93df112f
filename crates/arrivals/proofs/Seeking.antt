-- A run that goes through good arrivals from the front on, tick by tick and row by row, finds at its place what each row gets.
use Prim.Native.Nat.{ℕ, suc, ◌+◌, ◌*◌, ◌≤◌, ◌<◌, zero-le}
use mathlib.Core.Path.{◌≡◌, refl}
use mathlib.Core.List.{List}
use mathlib.Core.Logic.{dite}
use mathlib.Core.Bool.{Bool, true, false, true≢false, cond, ◌&&◌}
use Rattle.std.specs.Prelude.{Some, None}
use native.Mathlib.Omega.{arith}
use native.Mathlib.Decide.{ℕ_discrete, dec_lt}
use borrow.Author.Count.{below_more}
use borrow.Author.Tests.{ltb-true, lt-ltb, le-ltb, eqb-true, eq-eqb}
use lib.ListN.{length, get_or}
use lib.Dec.{ltb}
use Rattle.lists.specs.First.{first}
use Rattle.lists.proofs.Tests.{clash, both}
use Rattle.lists.proofs.First.{first_yes, first_is, first_none}
use Rattle.arrivals.specs.Arrival.{Arrival, arrival_at, lens_of, is_of, brings}
use Rattle.arrivals.specs.Seek.{key_of, GoodArrivals, Seek}
use Rattle.arrivals.proofs.Good.{rises}

-- the arrival of a row at a tick is the one with that tick and row
pub is_of_lem : (xs : List Arrival) (i t k : ℕ) → is_of xs i t k ≡ true → ((arrival_at xs k).tick ≡ t) × ((arrival_at xs k).row ≡ suc i)
unfolding is_of
is_of_lem xs i t k h =
    let w = both _ _ h in
    (eqb-true _ _ w.0, eqb-true _ _ w.1)

-- the place of what is brought
pub record Place (xs : List Arrival) (i t : ℕ) (ls : List ℕ) : Type 0 where
  pub place : ℕ
  pub below : place < length xs
  pub tick : (arrival_at xs place).tick ≡ t
  pub row : (arrival_at xs place).row ≡ suc i
  pub lens : ls ≡ lens_of (arrival_at xs place)

-- what is brought has its place in the list
pub brings_at : (xs : List Arrival) (i t : ℕ) (ls : List ℕ) → brings xs i t ≡ Some ls → Place xs i t ls
unfolding brings
brings_at xs i t ls h = go (ltb (first (length xs) (is_of xs i t)) (length xs)) refl h
  where
    go : (b : Bool) → ltb (first (length xs) (is_of xs i t)) (length xs) ≡ b → cond b (Some (lens_of (arrival_at xs (first (length xs) (is_of xs i t))))) None ≡ Some ls → Place xs i t ls
    go true e h =
        let l = ltb-true _ _ e in
        let w = is_of_lem xs i t _ (first_yes (length xs) (is_of xs i t) l) in
        record { place = first (length xs) (is_of xs i t); below = l; tick = w.0; row = w.1; lens = cc }
    go false e h =
        clash cc

-- what is brought keeps to the table, whose rows are n
pub record Brought (n : ℕ) (c1s secs c2s : List ℕ) (i t : ℕ) (ls : List ℕ) : Type 0 where
  pub three : length ls ≡ 3
  pub len1 : get_or ls 0 0 ≤ get_or c1s i 0
  pub len2 : get_or ls 1 0 ≤ get_or secs i 0
  pub len3 : get_or ls 2 0 ≤ get_or c2s i 0
  pub row : i < n
  pub tick : t < 1000000

module _ (n : ℕ) (periods c1s secs c2s : List ℕ) (xs : List Arrival) (good : GoodArrivals n periods c1s secs c2s xs) where
  -- what a good list brings keeps to the table
  pub brings_fits : (i t : ℕ) (ls : List ℕ) → brings xs i t ≡ Some ls → Brought n c1s secs c2s i t ls
  brings_fits i t ls h =
      let p = brings_at xs i t ls h in
      let l = good.lengths p.place i p.below p.row in
      rw p.lens
      (record {
        three = refl;
        len1 = l.0;
        len2 = l.1;
        len3 = l.2;
        row = omega (arith, good.rows p.place p.below, p.row);
        tick = omega (arith, good.ticks p.place p.below, p.tick);
      })

  -- a good list is in order
  keys_rise : (j k : ℕ) → j < k → k < length xs → key_of (arrival_at xs j) < key_of (arrival_at xs k)
  keys_rise = rises (λ k. key_of (arrival_at xs k)) (length xs) good.sorted

  -- and a row's arrivals in it are a period apart
  pub brings_apart : (i a b : ℕ) (ls ks : List ℕ) → brings xs i a ≡ Some ls → brings xs i b ≡ Some ks → a < b → a + get_or periods i 0 ≤ b
  brings_apart i a b ls ks p q l =
      let x = brings_at xs i a ls p in
      let y = brings_at xs i b ks q in
      dite (dec_lt x.place y.place)
      (λ s. omega (arith, good.apart x.place y.place i s y.below x.row y.row))
      (λ s.
      dite (dec_lt y.place x.place)
      (λ u. absurd (omega (arith, keys_rise y.place x.place u x.below)))
      (λ u.
      let e : x.place ≡ y.place = omega arith in
      let f : (arrival_at xs y.place).tick ≡ a = rw e at x.tick in
      absurd (omega arith)))

  module _ (rows : n ≤ 64) where
    -- the arrival with a row's key is the row's
    key_is : (i t k : ℕ) → i < 64 → k < length xs → key_of (arrival_at xs k) ≡ t * 64 + suc i → is_of xs i t k ≡ true
    unfolding is_of
    key_is i t k l h e =
        let r = good.rows k h in
        let p : (arrival_at xs k).tick ≡ t = omega arith in
        let q : (arrival_at xs k).row ≡ suc i = omega arith in
        rw (eq-eqb _ _ p, eq-eqb _ _ q)

    -- no other arrival has it
    other : (i t k : ℕ) → (key_of (arrival_at xs k) ≡ t * 64 + suc i → ⊥) → is_of xs i t k ≡ false
    other i t k h = go (is_of xs i t k) refl
      where
        go : (b : Bool) → is_of xs i t k ≡ b → b ≡ false
        go true e =
            let w = is_of_lem xs i t k e in
            absurd (h (omega arith))
        go false e = refl

    -- a run begins at the front
    pub seek_start : Seek xs 0 1
    seek_start =
        record {
          inside = zero-le;
          past = λ k l. absurd (omega arith);
          ahead = λ k l h. omega (arith, good.rows k h);
        }

    -- past the last row the next tick begins
    pub seek_tick : (next t : ℕ) → Seek xs next (t * 64 + suc n) → Seek xs next (suc t * 64 + 1)
    seek_tick next t s =
        record {
          inside = s.inside;
          past = λ k l. omega (arith, s.past k l);
          ahead = λ k l h. omega (arith, s.ahead k l h, good.rows k h);
        }

    module _ (next i t : ℕ) (row : i < 64) (s : Seek xs next (t * 64 + suc i)) where
      -- only the arrival at the place can be the row's
      elsewhere : (k : ℕ) → k < length xs → (k ≡ next → ⊥) → key_of (arrival_at xs k) ≡ t * 64 + suc i → ⊥
      elsewhere k l ne e =
          dite (dec_lt k next)
          (λ u. omega (arith, s.past k u))
          (λ u. omega (arith, keys_rise next k (omega arith) l, s.ahead next (omega arith) (omega arith)))

      -- and if it is not, none is
      nowhere : (ltb next (length xs) && is_of xs i t next) ≡ false → (k : ℕ) → k < length xs → key_of (arrival_at xs k) ≡ t * 64 + suc i → ⊥
      nowhere h k l e =
          dite (ℕ_discrete k next)
          (λ q.
          let m : next < length xs = omega arith in
          let f : key_of (arrival_at xs next) ≡ t * 64 + suc i = rw q at e in
          true≢false (rw (lt-ltb _ _ m, key_is i t next row m f) at h))
          (λ q. elsewhere k l q e)

      -- so what comes to the row is what stands at the place, if it is the row's
      pub seek_comes : cond (ltb next (length xs) && is_of xs i t next) (Some (lens_of (arrival_at xs next))) None ≡ brings xs i t
      unfolding brings
      seek_comes = go (ltb next (length xs) && is_of xs i t next) refl
        where
          go : (b : Bool) → (ltb next (length xs) && is_of xs i t next) ≡ b → cond b (Some (lens_of (arrival_at xs next))) None ≡ brings xs i t
          go true e =
              let w = both (ltb next (length xs)) (is_of xs i t next) e in
              let l = ltb-true next (length xs) w.0 in
              rw (first_is (length xs) (is_of xs i t) next l (λ j h. other i t j (elsewhere j (omega arith) (λ q. omega arith))) w.1, w.0)
          go false e = rw (first_none (length xs) (is_of xs i t) (λ j h. other i t j (nowhere e j h)), le-ltb (length xs) (length xs) (omega arith))

      -- and behind it the next row's place is known
      pub seek_next : Seek xs (next + cond (ltb next (length xs) && is_of xs i t next) 1 0) (t * 64 + suc (suc i))
      seek_next = go (ltb next (length xs) && is_of xs i t next) refl
        where
          go : (b : Bool) → (ltb next (length xs) && is_of xs i t next) ≡ b → Seek xs (next + cond b 1 0) (t * 64 + suc (suc i))
          go true e =
              let w = both (ltb next (length xs)) (is_of xs i t next) e in
              let l = ltb-true next (length xs) w.0 in
              let q = is_of_lem xs i t next w.1 in
              record {
                inside = omega arith;
                past = below_more (λ k. key_of (arrival_at xs k) < t * 64 + suc (suc i)) next (λ k h. omega (arith, s.past k h)) (omega arith);
                ahead = λ k h m. omega (arith, keys_rise next k (omega arith) m);
              }
          go false e =
              record {
                inside = omega (arith, s.inside);
                past = λ k h. omega (arith, s.past k (omega arith));
                ahead = λ k h m.
                    let ne : key_of (arrival_at xs k) ≡ t * 64 + suc i → ⊥ = nowhere e k m in
                    omega (arith, s.ahead k (omega arith) m, ne);
              }
