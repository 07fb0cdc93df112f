-- The bounds of sections, task by task.
use Prim.Native.Nat.{ℕ, ◌+◌, ◌≤◌, ◌<◌}
use mathlib.Core.Path.{◌≡◌, refl, sym, ap}
use mathlib.Core.List.{List}
use mathlib.Core.Bool.{Bool, true, false, cond}
use mathlib.Core.Logic.{◌↔◌}
use native.Mathlib.Omega.{arith}
use borrow.Author.Count.{below_more}
use borrow.Author.Tests.{lt-ltb, le-ltb}
use lib.ListN.{get_or, set}
use lib.Dec.{ltb}
use Rattle.std.specs.Prelude.{Ok, Err}
use Rattle.lists.specs.Tab.{filled}
use Rattle.lists.proofs.Tab.{filled_next, get_or-filled}
use Rattle.lists.proofs.First.{first_no, first_is, first_none}
use Rattle.bounds.specs.Bound.{Bound, missing, bound_of, LeastBound, is_missing, time_of}
use Rattle.bounds.specs.Terms.{terms_on, lane}
use Rattle.bounds.specs.declared.Lanes.{Lanes}
use Rattle.bounds.proofs.Search.{bound_least, bound_there}
use Rattle.bounds.proofs.Filling.{Filled}
use Rattle.sections.specs.Blocking.{blocking_of}
use Rattle.sections.specs.Section.{section_bound, first_missing, missing_value, bounds_found, sections_of, bounds_in}

module _ (npp : Bool) (periods sections tops homes : List ℕ) (n : ℕ) where
  -- the bounds of the first k tasks
  abbrev pub bounds_to : ℕ → List ℕ
  bounds_to k = filled 64 0 k (λ j. time_of (section_bound npp periods sections tops homes n j))

  -- each of the first k tasks has a bound
  abbrev pub Found : ℕ → Type 0
  Found k = (j : ℕ) → j < k → is_missing (section_bound npp periods sections tops homes n j) ≡ false

  -- what is found on the lane of a task's home is its bound
  pub bound_found : {lanes : Lanes} (k : ℕ) (b : Bound) → get_or homes k 0 < 17 → Filled periods sections homes lanes k →
      b ≡ bound_of (lane lanes.terms (get_or homes k 0) (get_or lanes.count (get_or homes k 0) 0)) (get_or sections k 0) (blocking_of npp sections tops homes n k) (get_or periods k 0) →
      b ≡ section_bound npp periods sections tops homes n k
  unfolding section_bound
  bound_found k b l x e = rw (x.holds (get_or homes k 0) l) at e

  -- one more bound
  pub bounds_more : (k t : ℕ) (bs : List ℕ) → k < 64 → bs ≡ bounds_to k → time_of (section_bound npp periods sections tops homes n k) ≡ t → set bs k t ≡ bounds_to (k + 1)
  bounds_more k t bs l e h = rw (sym h) (filled_next 64 0 (λ j. time_of (section_bound npp periods sections tops homes n j)) k bs l e)

  -- one task more has a bound
  pub found_more : (k : ℕ) → Found k → is_missing (section_bound npp periods sections tops homes n k) ≡ false → Found (k + 1)
  found_more k h e = below_more (λ j. is_missing (section_bound npp periods sections tops homes n j) ≡ false) k h e

  -- the first that is missing ends it, with the value that broke its limit
  pub sections_missing : (k v : ℕ) (bs : List ℕ) → k < n → Found k → section_bound npp periods sections tops homes n k ≡ missing v → bs ≡ bounds_to k → Err (record { task = k; value = v; bound = bs }) ≡ sections_of npp periods sections tops homes n
  unfolding sections_of bounds_found missing_value first_missing
  sections_missing k v bs l f m e =
      let x : first_missing npp periods sections tops homes n ≡ k = first_is n (λ k. is_missing (section_bound npp periods sections tops homes n k)) k l f (ap is_missing m) in
      rw (x, lt-ltb k n l, m, e)

  -- and where none is missing, all are found
  pub sections_all : (bs : List ℕ) → Found n → bs ≡ bounds_to n → Ok bs ≡ sections_of npp periods sections tops homes n
  unfolding sections_of bounds_found first_missing
  sections_all bs f e =
      let x : first_missing npp periods sections tops homes n ≡ n = first_none n (λ k. is_missing (section_bound npp periods sections tops homes n k)) f in
      rw (x, le-ltb n n (omega arith), e)

  -- these bounds are answered
  pub bounds_answered : bounds_in (sections_of npp periods sections tops homes n) ≡ bounds_found npp periods sections tops homes n
  unfolding sections_of
  bounds_answered = go (ltb (first_missing npp periods sections tops homes n) n)
    where
      go : (b : Bool) → bounds_in (cond b (Err (record { task = first_missing npp periods sections tops homes n; value = missing_value npp periods sections tops homes n; bound = bounds_found npp periods sections tops homes n })) (Ok (bounds_found npp periods sections tops homes n))) ≡ bounds_found npp periods sections tops homes n
      go true = refl
      go false = refl

  -- a bound that is there is the least that covers, and at most the period
  pub section_least : (k : ℕ) → k < first_missing npp periods sections tops homes n →
      LeastBound (terms_on periods sections homes (get_or homes k 0) k) (get_or sections k 0) (blocking_of npp sections tops homes n k) (get_or (bounds_in (sections_of npp periods sections tops homes n)) k 0)
      × (get_or (bounds_in (sections_of npp periods sections tops homes n)) k 0 ≤ get_or periods k 0)
  unfolding bounds_found first_missing section_bound
  section_least k l =
      rw (bounds_answered, get_or-filled 64 0 (λ j. time_of (section_bound npp periods sections tops homes n j)) (first_missing npp periods sections tops homes n) k 0 l)
      (go (section_bound npp periods sections tops homes n k) refl (first_no n (λ j. is_missing (section_bound npp periods sections tops homes n j)) k l))
    where
      go : (b : Bound) → section_bound npp periods sections tops homes n k ≡ b → is_missing b ≡ false →
          LeastBound (terms_on periods sections homes (get_or homes k 0) k) (get_or sections k 0) (blocking_of npp sections tops homes n k) (time_of b) × (time_of b ≤ get_or periods k 0)
      go (Ok t) e h = bound_least (terms_on periods sections homes (get_or homes k 0) k) (blocking_of npp sections tops homes n k) (get_or periods k 0) t (get_or sections k 0) e
      go (Err v) e h = cc

  -- "It must be at most T": a section's bound is missing unless the least that covers is
  pub section_exactly : (k : ℕ) → (is_missing (section_bound npp periods sections tops homes n k) ≡ false)
      ↔ ((t : ℕ) × LeastBound (terms_on periods sections homes (get_or homes k 0) k) (get_or sections k 0) (blocking_of npp sections tops homes n k) t × (t ≤ get_or periods k 0))
  unfolding section_bound
  section_exactly k = bound_there (terms_on periods sections homes (get_or homes k 0) k) (get_or sections k 0) (blocking_of npp sections tops homes n k) (get_or periods k 0)
