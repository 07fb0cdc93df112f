-- Laws of the spread: the least loaded processor, and who serves whom.
use Prim.Native.Nat.{ℕ, zero, suc, ◌+◌, ◌*◌, ◌<◌, ◌≤◌}
use mathlib.Core.Path.{◌≡◌, sym, ◌∙◌, ap}
use mathlib.Core.Logic.{◌↔◌, dite}
use mathlib.Core.List.{List}
use mathlib.Core.Bool.{cond}
use native.Mathlib.Omega.{arith}
use native.Mathlib.Decide.{dec_lt, ℕ_discrete}
use native.Mathlib.Numerals.{add-one}
use lib.ListN.{length, get_or, set, length-set, length-replicate}
use lib.Seq.{get_or-set_same, get_or-set_other}
use lib.Dec.{ltb}
use borrow.Author.Tests.{lt-ltb, le-ltb}
use Rattle.lists.specs.Tab.{blank}
use Rattle.lists.proofs.Tab.{get_or-blank}
use Rattle.lists.proofs.Sets.{set-within}
use Rattle.spread.specs.Weight.{GoodWeights, used_of, heaviest_of}
use Rattle.spread.specs.Spread.{lightest_of, Lightest, loaded, loads_of, serves_of}
use Rattle.spread.proofs.Weight.{used_le}
use Rattle.spread.proofs.Order.{heaviest_in, heaviest_has, heaviest_used}

-- one processor more
pub lightest_more : (loads : List ℕ) (p : ℕ) → lightest_of loads (p + 1) ≡ cond (ltb (get_or loads (p + 1) 0) (get_or loads (lightest_of loads p) 0)) (p + 1) (lightest_of loads p)
unfolding lightest_of
lightest_more loads p = rw (add-one p)

module _ (loads : List ℕ) where
  -- what is at most each of the first s loads, and the next, is at most each of s + 1
  least_next : (s v : ℕ) → ((q : ℕ) → 1 ≤ q → q ≤ s → v ≤ get_or loads q 0) → v ≤ get_or loads (suc s) 0 → (q : ℕ) → 1 ≤ q → q ≤ suc s → v ≤ get_or loads q 0
  least_next s v before next q a b =
      dite (dec_lt q (suc s)) (λ k. before q a (omega arith)) (λ k.
      let e : q ≡ suc s = omega arith in
      rw e next)

  -- one processor more
  lightest_next : (s p : ℕ) → Lightest loads s p → Lightest loads (suc s) (cond (ltb (get_or loads (suc s) 0) (get_or loads p 0)) (suc s) p)
  lightest_next s p x =
      dite (dec_lt (get_or loads (suc s) 0) (get_or loads p 0))
      (λ h. rw (lt-ltb (get_or loads (suc s) 0) (get_or loads p 0) h) record {
        first = omega arith;
        last = omega arith;
        least = least_next s (get_or loads (suc s) 0) (λ q a b. omega (arith, x.least q a b)) (omega arith);
        lower = λ q a b. omega (arith, x.least q a (omega arith));
      })
      (λ h. rw (le-ltb (get_or loads (suc s) 0) (get_or loads p 0) (omega arith)) record {
        first = x.first;
        last = omega arith;
        least = least_next s (get_or loads p 0) x.least (omega arith);
        lower = x.lower;
      })

  -- the one that is found is the least loaded, and of those the lowest-numbered
  pub lightest_is : (s : ℕ) → 1 ≤ s → Lightest loads s (lightest_of loads s)
  unfolding lightest_of
  lightest_is zero h = absurd (omega arith)
  lightest_is (suc zero) h =
      rw (le-ltb (get_or loads 1 0) (get_or loads 1 0) (omega arith)) record {
        first = omega arith;
        last = omega arith;
        least = least_next 0 (get_or loads 1 0) (λ q a b. absurd (omega arith)) (omega arith);
        lower = λ q a b. absurd (omega arith);
      }
  lightest_is (suc (suc s)) h = lightest_next (suc s) (lightest_of loads (suc s)) (lightest_is (suc s) (omega arith))

module _ (weights order : List ℕ) (s : ℕ) where
  -- one resource more is loaded
  pub loads_more : (j : ℕ) → loads_of weights order s (j + 1) ≡ loaded (loads_of weights order s j) (lightest_of (loads_of weights order s j) s) (get_or weights (get_or order j 0) 0)
  unfolding loads_of
  loads_more j = rw add-one

  -- and has its processor
  pub serves_more : (j : ℕ) → serves_of weights order s (j + 1) ≡ set (serves_of weights order s j) (get_or order j 0) (lightest_of (loads_of weights order s j) s)
  unfolding serves_of
  serves_more j = rw add-one

  -- no processor is loaded with more than j resources can weigh
  pub loads_le : (j : ℕ) → ((i : ℕ) → i < j → get_or weights (get_or order i 0) 0 ≤ 64000000) → (q : ℕ) → get_or (loads_of weights order s j) q 0 ≤ j * 64000000
  unfolding loads_of
  loads_le zero small q = omega (arith, get_or-blank {A = ℕ} 17 0 q)
  loads_le (suc j) small q =
      let p : ℕ = lightest_of (loads_of weights order s j) s in
      let before : (q : ℕ) → get_or (loads_of weights order s j) q 0 ≤ j * 64000000 = loads_le j (λ i l. small i (omega arith)) in
      set-within (loads_of weights order s j) (λ q. suc j * 64000000) p _ (λ q. omega (arith, before q)) (omega (arith, before p, small j (omega arith))) q

  -- each resource has a place
  serves-length : (j : ℕ) → length (serves_of weights order s j) ≡ 17
  unfolding serves_of blank
  serves-length zero = length-replicate {A = ℕ} 17 0
  serves-length (suc j) = length-set (serves_of weights order s j) (get_or order j 0) (lightest_of (loads_of weights order s j) s) ∙ serves-length j

  -- who has not been given to a processor has none
  serves_none : (j r : ℕ) → ((i : ℕ) → i < j → get_or order i 0 ≡ r → ⊥) → get_or (serves_of weights order s j) r 0 ≡ 0
  unfolding serves_of
  serves_none zero r other = get_or-blank {A = ℕ} 17 0 r
  serves_none (suc j) r other =
      get_or-set_other (serves_of weights order s j) (get_or order j 0) r (lightest_of (loads_of weights order s j) s) 0 (λ e. other j (omega arith) (sym e))
      ∙ serves_none j r (λ i l. other i (omega arith))

  -- no processor but 1 to s serves
  pub serves-le : (j : ℕ) → (0 < j → 1 ≤ s) → (r : ℕ) → get_or (serves_of weights order s j) r 0 ≤ s
  unfolding serves_of
  serves-le zero some r = omega (arith, get_or-blank {A = ℕ} 17 0 r)
  serves-le (suc j) some r =
      let one : 1 ≤ s = some (omega arith) in
      set-within (serves_of weights order s j) (λ r. s) (get_or order j 0) _ (serves-le j (λ l. one)) (lightest_is (loads_of weights order s j) s one).last r

  -- each of the first j resources of the order has a processor
  serves_given : (j : ℕ) → 1 ≤ s → ((i : ℕ) → i < j → get_or order i 0 ≤ 16) → (i : ℕ) → i < j → 1 ≤ get_or (serves_of weights order s j) (get_or order i 0) 0
  unfolding serves_of
  serves_given zero some small i l = absurd (omega arith)
  serves_given (suc j) some small i l =
      let before : List ℕ = serves_of weights order s j in
      let p : ℕ = lightest_of (loads_of weights order s j) s in
      let one : 1 ≤ p = (lightest_is (loads_of weights order s j) s some).first in
      dite (ℕ_discrete (get_or order i 0) (get_or order j 0))
      (λ e. rw e (omega (arith, get_or-set_same before (get_or order j 0) p 0 (omega (arith, serves-length j, small j (omega arith))))))
      (λ e. dite (dec_lt i j)
      (λ k. omega (arith, get_or-set_other before (get_or order j 0) (get_or order i 0) p 0 e, serves_given j some (λ i' l'. small i' (omega arith)) i k))
      (λ k.
      let q : i ≡ j = omega arith in
      absurd (e (ap (λ (x : ℕ). get_or order x 0) q))))

-- heaviest first, exactly the used resources have a processor
pub served : (weights : List ℕ) → GoodWeights weights → (s : ℕ) → (0 < used_of weights → 1 ≤ s) → (r : ℕ) → 1 ≤ r → r ≤ 16 → (0 < get_or weights r 0) ↔ (1 ≤ get_or (serves_of weights (heaviest_of weights) s (used_of weights)) r 0)
served weights good s some r a b =
    let (j, l, e) = heaviest_has weights r a b in
    let u : used_of weights ≤ 16 = used_le weights in (
      (λ h.
          let k : j < used_of weights = (heaviest_used weights good j l).1 (rw e h) in
          rw e at (serves_given weights (heaviest_of weights) s (used_of weights) (some (omega arith)) (λ i m. (heaviest_in weights i (omega arith)).1) j k)),
      λ h. dite (dec_lt 0 (get_or weights r 0)) (λ k. k)
          (λ k.
          let none : get_or (serves_of weights (heaviest_of weights) s (used_of weights)) r 0 ≡ 0 =
          serves_none weights (heaviest_of weights) s (used_of weights) r (λ i m q.
          let w : 0 < get_or weights (get_or (heaviest_of weights) i 0) 0 = (heaviest_used weights good i (omega arith)).0 m in
          omega (arith, ap (λ (x : ℕ). get_or weights x 0) q)) in
          absurd (omega arith)),
    )
