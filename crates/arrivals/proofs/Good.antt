-- A list of arrivals without refusal is good: in order, within the table's limits, and each row's a period apart.
use Prim.Native.Nat.{ℕ, zero, suc, ◌+◌, ◌-◌, ◌*◌, ◌≤◌, ◌<◌}
use Rattle.std.specs.Prelude.{Result, Ok, Err, ⊤}
use mathlib.Core.Path.{◌≡◌, refl}
use mathlib.Core.List.{List}
use mathlib.Core.Logic.{◌⊎◌, inl, inr, ⊎_elim, dite}
use mathlib.Core.Bool.{Bool, true, false, false≢true, cond, ◌&&◌, ◌||◌}
use native.Mathlib.Omega.{arith}
use native.Mathlib.Decide.{dec_lt}
use borrow.Author.Tests.{ltb-true, ltb-false, eqb-true, eqb-false, not-false}
use lib.ListN.{length, get_or}
use lib.Dec.{ltb, eqb}
use Rattle.lists.proofs.First.{first_yes, good_before}
use Rattle.arrivals.specs.Arrival.{Arrival, arrival_at}
use Rattle.arrivals.specs.Check.{Unheard, disordered, last_of, fault_with, number_at, first_bad, heard_of, number_heard}
use Rattle.arrivals.specs.Seek.{key_of, GoodArrivals}
use Rattle.arrivals.proofs.Fine.{Fine, fine, number_range, fault_numbered}

-- what rises from each place to the next rises from any place to a later one
pub rises : (f : ℕ → ℕ) (n : ℕ) → ((k : ℕ) → suc k < n → f k < f (suc k)) → (j k : ℕ) → j < k → k < n → f j < f k
rises f n up j zero l h = absurd (omega arith)
rises f n up j (suc k) l h =
    dite (dec_lt j k)
    (λ s. omega (arith, rises f n up j k s (omega arith), up k h))
    (λ s.
    let e : j ≡ k = omega arith in
    rw e (up k h))

-- an arrival that stands behind another has a larger key
behind_key : (a b r s : ℕ) → (ltb a b || (eqb a b && ltb r s)) ≡ true → r ≤ 64 → 1 ≤ s → a * 64 + r < b * 64 + s
behind_key a b r s h u v = go (ltb a b) (eqb a b) refl refl h
  where
    go : (x y : Bool) → ltb a b ≡ x → eqb a b ≡ y → (x || (y && ltb r s)) ≡ true → a * 64 + r < b * 64 + s
    go true y e f h = omega (arith, ltb-true a b e)
    go false true e f h = omega (arith, eqb-true a b f, ltb-true r s h)
    go false false e f h = absurd (false≢true h)

module _ (n : ℕ) (periods c1s secs c2s : List ℕ) (xs : List Arrival) where
  -- the number of the arrival at place k, and the place of the first bad one
  abbrev number : ℕ → ℕ
  number = number_at n periods c1s secs c2s xs

  abbrev bad : ℕ
  bad = first_bad n periods c1s secs c2s xs

  -- the answer, by whether there is one
  abbrev picked : Bool → Result ⊤ Unheard
  picked b = cond b (Err (record { fault = fault_with (number bad); position = suc bad })) (Ok tt)

  -- the number is the first bad arrival's, or 0 if there is none
  heard_cases : ((bad < length xs) × (number_heard (heard_of n periods c1s secs c2s xs) ≡ number bad)) ⊎ ((length xs ≤ bad) × (number_heard (heard_of n periods c1s secs c2s xs) ≡ 0))
  unfolding heard_of first_bad
  heard_cases = go (ltb bad (length xs)) refl
    where
      go : (b : Bool) → ltb bad (length xs) ≡ b → ((bad < length xs) × (number_heard (picked b) ≡ number bad)) ⊎ ((length xs ≤ bad) × (number_heard (picked b) ≡ 0))
      go true e =
          let l = ltb-true _ _ e in
          let r = number_range n periods c1s secs c2s xs bad (arrival_at xs bad) refl in
          let y : 1 ≤ number bad = ltb-true 0 (number bad) (first_yes (length xs) (λ k. ltb 0 (number k)) l) in
          inl (l, fault_numbered (number bad) (r.1 y) r.0)
      go false e = inr (ltb-false _ _ e, refl)

  -- a refusal is one of 15 to 18
  pub number_le : number_heard (heard_of n periods c1s secs c2s xs) ≤ 18
  number_le = ⊎_elim (λ w. omega (arith, number_range n periods c1s secs c2s xs bad (arrival_at xs bad) refl)) (λ w. omega arith) heard_cases

  -- and at least 15
  pub number_ge : 1 ≤ number_heard (heard_of n periods c1s secs c2s xs) → 15 ≤ number_heard (heard_of n periods c1s secs c2s xs)
  number_ge h = ⊎_elim (λ w. rw w.1 ((number_range n periods c1s secs c2s xs bad (arrival_at xs bad) refl).1 (omega arith))) (λ w. absurd (omega arith)) heard_cases

  module _ (rows : n ≤ 64) (none : number_heard (heard_of n periods c1s secs c2s xs) ≡ 0) where
    -- where there is none, each arrival is fine
    all_fine : (k : ℕ) → k < length xs → Fine n periods c1s secs c2s xs k (arrival_at xs k)
    unfolding first_bad
    all_fine k l =
        ⊎_elim
        (λ w. absurd (omega (arith, ltb-true 0 (number bad) (first_yes (length xs) (λ j. ltb 0 (number j)) w.0))))
        (λ w. fine n periods c1s secs c2s xs k (arrival_at xs k) refl (good_before (length xs) number k (omega arith)))
        heard_cases

    -- so each stands behind the one before it,
    in_order : (k : ℕ) → suc k < length xs → key_of (arrival_at xs k) < key_of (arrival_at xs (suc k))
    unfolding disordered
    in_order k l =
        let r = (all_fine k (omega arith)).row in
        let s = (all_fine (suc k) l).row in
        behind_key _ _ _ _ (not-false _ (all_fine (suc k) l).tick.1) (omega arith) s.0

    -- ticks do not fall,
    tick-le : (j k : ℕ) → j < k → k < length xs → (arrival_at xs j).tick ≤ (arrival_at xs k).tick
    tick-le j k l h =
        let r = (all_fine j (omega arith)).row in
        let s = (all_fine k h).row in
        omega (arith, rises (λ i. key_of (arrival_at xs i)) (length xs) in_order j k l h)

    -- the last arrival of a row is no earlier than any before it
    last_covers : (j k i : ℕ) → j < k → k ≤ length xs → (arrival_at xs j).row ≡ suc i → suc (arrival_at xs j).tick ≤ last_of xs (suc i) k
    unfolding last_of
    last_covers j zero i l h e = absurd (omega arith)
    last_covers j (suc k) i l h e = go (eqb (arrival_at xs k).row (suc i)) refl (λ s. last_covers j k i s (omega arith) e)
      where
        go : (b : Bool) → eqb (arrival_at xs k).row (suc i) ≡ b → (j < k → suc (arrival_at xs j).tick ≤ last_of xs (suc i) k) →
            suc (arrival_at xs j).tick ≤ cond b (suc (arrival_at xs k).tick) (last_of xs (suc i) k)
        go true q ih =
            dite (dec_lt j k)
            (λ s. omega (arith, tick-le j k s (omega arith)))
            (λ s.
            let p : j ≡ k = omega arith in
            rw p (omega arith))
        go false q ih =
            dite (dec_lt j k) ih
            (λ s.
            let p : j ≡ k = omega arith in
            absurd (eqb-false _ _ q (rw p at e)))

    -- a row's arrivals are a period apart,
    row_apart : (j k i : ℕ) → j < k → k < length xs → (arrival_at xs j).row ≡ suc i → (arrival_at xs k).row ≡ suc i → (arrival_at xs j).tick + get_or periods i 0 ≤ (arrival_at xs k).tick
    row_apart j k i l h d e =
        let c = last_covers j k i l (omega arith) d in
        let q : (arrival_at xs k).row - 1 ≡ i = omega arith in
        let s : 0 < last_of xs (suc i) k → last_of xs (suc i) k + get_or periods i 0 ≤ suc (arrival_at xs k).tick = rw (q, e) at (all_fine k h).period in
        omega (arith, s (omega arith))

    -- and the list is good
    pub arrivals_good : GoodArrivals n periods c1s secs c2s xs
    arrivals_good =
        record {
          rows = λ k l. (all_fine k l).row;
          ticks = λ k l. (all_fine k l).tick.0;
          sorted = in_order;
          lengths = λ k i l e.
              let p : (arrival_at xs k).row - 1 ≡ i = omega arith in
              rw p at (all_fine k l).lengths;
          apart = row_apart;
        }
