-- Laws of the order of resources: each stands in it once, the heavier before the lighter, and those that are used come first.
use Prim.Native.Nat.{ℕ, zero, suc, ◌+◌, ◌-◌, ◌<◌, ◌≤◌}
use mathlib.Core.Path.{◌≡◌, refl, sym, ◌∙◌, ap}
use mathlib.Core.List.{List}
use mathlib.Core.Bool.{Bool}
use mathlib.Core.Logic.{inl, inr, ⊎_elim, ◌↔◌, dite}
use native.Mathlib.Omega.{arith}
use native.Mathlib.Decide.{dec_lt}
use lib.ListN.{get_or}
use lib.Dec.{ltb}
use borrow.Author.Tests.{lt-ltb, ltb-true}
use Rattle.lists.proofs.Tab.{get_or-filled}
use Rattle.lists.proofs.Count.{count-le, count-lt}
use Rattle.rank.specs.Rank.{better, rank_of, ranks_of}
use Rattle.rank.specs.Order.{row_of, numbers_to}
use Rattle.rank.proofs.Order.{better-le, better_false, lower_rank}
use Rattle.rank.proofs.InRank.{rank_at, at_lt, row_of_rank, rank_of_row, get_or-in_rank, numbers}
use Rattle.spread.specs.Weight.{GoodWeights, used_of, lacks_of, heaviest_of, Before}

-- the resource at place j, less one: the row of rank j among what the resources lack
row : List ℕ → ℕ → ℕ
row weights j = row_of (ranks_of (lacks_of weights) 16) 16 j

module _ (weights : List ℕ) where
  -- what resource r + 1 lacks
  lack : (r : ℕ) → r < 16 → get_or (lacks_of weights) r 0 ≡ 64000000 - get_or weights (r + 1) 0
  unfolding lacks_of
  lack r l = get_or-filled 64 0 (λ r. 64000000 - get_or weights (r + 1) 0) 16 r 0 l

  -- it is one of 16
  row_lt : (j : ℕ) → j < 16 → row weights j < 16
  unfolding row
  row_lt j l = (rank_of_row (lacks_of weights) (ranks_of (lacks_of weights) 16) 16 (omega arith) refl j l).0

  -- and its rank is j
  row_rank : (j : ℕ) → j < 16 → rank_of (lacks_of weights) 16 (row weights j) ≡ j
  unfolding row
  row_rank j l =
      let (h, e) = rank_of_row (lacks_of weights) (ranks_of (lacks_of weights) 16) 16 (omega arith) refl j l in
      sym (rank_at (lacks_of weights) (ranks_of (lacks_of weights) 16) 16 (omega arith) refl (row weights j) h) ∙ e

  -- the resource at place j
  place : (j : ℕ) → j < 16 → get_or (heaviest_of weights) j 0 ≡ row weights j + 1
  unfolding heaviest_of row
  place j l =
      get_or-in_rank (ranks_of (lacks_of weights) 16) 16 (numbers_to 16) j l
      ∙ numbers 16 (row weights j) (row_lt j l)

  -- each place holds a resource
  pub heaviest_in : (j : ℕ) → j < 16 → (1 ≤ get_or (heaviest_of weights) j 0) × (get_or (heaviest_of weights) j 0 ≤ 16)
  heaviest_in j l =
      let e = place j l in
      let h = row_lt j l in
      (omega arith, omega arith)

  -- no resource stands at two places
  pub heaviest_once : (i j : ℕ) → i < 16 → j < 16 → get_or (heaviest_of weights) i 0 ≡ get_or (heaviest_of weights) j 0 → i ≡ j
  heaviest_once i j k l e =
      let q : row weights i ≡ row weights j = omega (arith, place i k, place j l) in
      sym (row_rank i k) ∙ ap (rank_of (lacks_of weights) 16) q ∙ row_rank j l

  -- every resource has a place
  pub heaviest_has : (r : ℕ) → 1 ≤ r → r ≤ 16 → (j : ℕ) × (j < 16) × (get_or (heaviest_of weights) j 0 ≡ r)
  unfolding row
  heaviest_has zero a b = elim a [ ]
  heaviest_has (suc r) a b =
      let j : ℕ = get_or (ranks_of (lacks_of weights) 16) r 0 in
      let l : j < 16 = at_lt (lacks_of weights) (ranks_of (lacks_of weights) 16) 16 (omega arith) refl r (omega arith) in
      let e : row weights j ≡ r = row_of_rank (lacks_of weights) (ranks_of (lacks_of weights) 16) 16 (omega arith) refl r (omega arith) in
      (j, l, omega (arith, place j l))

  module _ (good : GoodWeights weights) where
    -- "Heaviest first (ties: lower number)"
    pub heaviest_first : (i j : ℕ) → i < j → j < 16 → Before weights (get_or (heaviest_of weights) i 0) (get_or (heaviest_of weights) j 0)
    heaviest_first i j h l =
        let a : ℕ = row weights i in
        let b : ℕ = row weights j in
        let k : i < 16 = omega arith in
        let la : a < 16 = row_lt i k in
        let lb : b < 16 = row_lt j l in
        rw (place i k, place j l)
        (⊎_elim
        (λ m. inl (omega (arith, lack a la, lack b lb)))
        (λ m. inr (omega (arith, lack a la, lack b lb, good (a + 1) (omega arith), good (b + 1) (omega arith)), omega (arith, m.1)))
        (lower_rank (lacks_of weights) 16 (omega arith) a b la lb (omega (arith, row_rank i k, row_rank j l))))

    -- the used resources are those at the first places: as many as are used
    pub heaviest_used : (j : ℕ) → j < 16 → (j < used_of weights) ↔ (0 < get_or weights (get_or (heaviest_of weights) j 0) 0)
    unfolding used_of rank_of
    heaviest_used j l =
        let a : ℕ = row weights j in
        let la : a < 16 = row_lt j l in
        let e : rank_of (lacks_of weights) 16 a ≡ j = row_rank j l in
        let ahead : ℕ → Bool = λ b. better (get_or (lacks_of weights) b 0) b (get_or (lacks_of weights) a 0) a in
        let weighs : ℕ → Bool = λ b. ltb 0 (get_or weights (b + 1) 0) in
        rw (place j l) (
          (λ h. dite (dec_lt 0 (get_or weights (a + 1) 0)) (λ k. k)
              (λ k. absurd (omega (
                arith,
                count-le 16 weighs ahead (λ b m x.
                    simp (lt-ltb (get_or (lacks_of weights) b 0) (get_or (lacks_of weights) a 0) (omega (arith, lack a la, lack b m, good (b + 1) (omega arith), ltb-true 0 (get_or weights (b + 1) 0) x)))),
              )))),
          λ h. omega (
            arith,
            count-lt 16 ahead weighs
                (λ b m x. lt-ltb 0 (get_or weights (b + 1) 0) (omega (arith, lack a la, lack b m, good (a + 1) (omega arith), good (b + 1) (omega arith), better-le (get_or (lacks_of weights) b 0) b (get_or (lacks_of weights) a 0) a x)))
                a la
                (better_false (lacks_of weights) 16 (omega arith) a a la la (omega arith))
                (lt-ltb 0 (get_or weights (a + 1) 0) h),
          ),
        )
