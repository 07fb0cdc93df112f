-- Laws of blocking: what callers may know of it.
use Prim.Native.Nat.{ℕ, ◌+◌, ◌-◌, ◌≤◌, ◌<◌, max}
use mathlib.Core.Path.{◌≡◌, ◌∙◌}
use mathlib.Core.List.{List}
use mathlib.Core.Bool.{Bool, true, cond, ◌&&◌, ◌||◌}
use native.Mathlib.Omega.{arith}
use borrow.Author.Tests.{lt-ltb, le-ltb}
use lib.ListN.{get_or}
use lib.Dec.{leb, eqb}
use Rattle.lists.proofs.Largest.{largest_more, largest_covers, largest-le, largest_none}
use Rattle.sections.specs.Blocking.{may_block, largest_a, blocking_of}

module _ (npp : Bool) (sections tops homes : List ℕ) (k : ℕ) where
  -- among the tasks up to k there is none
  pub largest_a_from : largest_a npp sections tops homes (k + 1) k ≡ 0
  unfolding largest_a may_block
  largest_a_from = largest_none (may_block npp tops homes k) (λ i. get_or sections i 0) (k + 1) (λ i l. rw (le-ltb k i (omega arith)))

  -- one lower-ranked task more
  pub largest_a_more : (i : ℕ) → k < i →
      largest_a npp sections tops homes (i + 1) k
      ≡ cond (eqb (get_or homes i 0) (get_or homes k 0) && (npp || leb (get_or tops i 0) k)) (max (get_or sections i 0) (largest_a npp sections tops homes i k)) (largest_a npp sections tops homes i k)
  unfolding largest_a may_block
  largest_a_more i l = largest_more (may_block npp tops homes k) (λ i. get_or sections i 0) i ∙ rw (lt-ltb k i l)

  -- at the last task, the largest less 1 is the blocking
  pub blocking_is : (i n most : ℕ) → i ≡ n → most ≡ largest_a npp sections tops homes i k → most - 1 ≡ blocking_of npp sections tops homes n k
  unfolding blocking_of
  blocking_is i n most q e = rw (e, q)

  -- a section that may block is longer than the blocking by one unit at most
  pub blocking_covers : (n i : ℕ) → i < n → may_block npp tops homes k i ≡ true → get_or sections i 0 ≤ blocking_of npp sections tops homes n k + 1
  unfolding blocking_of largest_a
  blocking_covers n i l e = omega (arith, largest_covers (may_block npp tops homes k) (λ i. get_or sections i 0) n i l e)

  -- what bounds every section bounds the blocking
  pub blocking-le : (n b : ℕ) → ((i : ℕ) → i < n → get_or sections i 0 ≤ b) → blocking_of npp sections tops homes n k ≤ b
  unfolding blocking_of largest_a
  blocking-le n b h = omega (arith, largest-le (may_block npp tops homes k) (λ i. get_or sections i 0) n b (λ i l e. h i l))
