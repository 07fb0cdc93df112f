-- "Section bound S of k", and "All S are worked out in rank order."
use Rattle.std.specs.Prelude.{ℕ, List, Bool, cond, get_or, ltb, Result, Ok, Err}
use Rattle.lists.specs.Tab.{filled}
use Rattle.lists.specs.First.{first}
use Rattle.bounds.specs.Terms.{terms_on}
use Rattle.bounds.specs.Bound.{Bound, bound_of, is_missing, time_of, broke_of}
use Rattle.sections.specs.Blocking.{blocking_of}
use Rattle.sections.specs.declared.NoSection.{NoSection}

module _ (npp : Bool) (periods sections tops homes : List ℕ) (n : ℕ) where
  -- "the least t ≥ 1 for which A + B + the sum, over better-ranked tasks i with a section on that processor, of ceil(t / T_i) × A_i
  -- equals t. It must be at most T."
  unfoldable pub section_bound : ℕ → Bound
  section_bound k =
      bound_of (terms_on periods sections homes (get_or homes k 0) k) (get_or sections k 0) (blocking_of npp sections tops homes n k) (get_or periods k 0)

  -- the first task whose bound is missing, or n
  unfoldable pub first_missing : ℕ
  first_missing = first n (λ k. is_missing (section_bound k))

  -- "for mark 1 that value": the one that broke its limit, which is T; 0 if none is missing
  unfoldable pub missing_value : ℕ
  missing_value = cond (ltb first_missing n) (broke_of (section_bound first_missing)) 0

  -- the bounds up to there
  unfoldable pub bounds_found : List ℕ
  bounds_found = filled 64 0 first_missing (λ k. time_of (section_bound k))

  -- all of them, or those before the first that is missing
  unfoldable pub sections_of : Result (List ℕ) NoSection
  sections_of = cond (ltb first_missing n) (Err (record { task = first_missing; value = missing_value; bound = bounds_found })) (Ok bounds_found)

-- the bounds that are answered, of all tasks or of those before the first without one
abbrev pub bounds_in : Result (List ℕ) NoSection → List ℕ
bounds_in (Ok bs) = bs
bounds_in (Err e) = e.bound
