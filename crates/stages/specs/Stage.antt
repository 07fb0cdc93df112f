-- "In rank order each task goes to the lowest-numbered application processor that it fits." Tasks are numbered by rank.
use Rattle.std.specs.Prelude.{ℕ, zero, suc, List, Bool, true, false, cond, get_or, set, ltb, Result, Ok, Err}
use Rattle.lists.specs.Tab.{blank, filled}
use Rattle.lists.specs.First.{first}
use Rattle.bounds.specs.Terms.{terms_on}
use Rattle.stages.specs.Fit.{Fit, Place, fit_among, place_among}
use Rattle.stages.specs.declared.Stages.{Stages}
use Rattle.stages.specs.declared.Nowhere.{Nowhere}

-- what a place says: its processor and its two bounds, 0 for none; whether it is none, and then the value that goes with that
abbrev pub processor_of : Place → ℕ
processor_of (Ok x) = x.processor
processor_of (Err e) = 0

abbrev pub d1_of : Place → ℕ
d1_of (Ok x) = x.d1
d1_of (Err e) = 0

abbrev pub d2_of : Place → ℕ
d2_of (Ok x) = x.d2
d2_of (Err e) = 0

abbrev pub is_nowhere : Place → Bool
is_nowhere (Ok x) = false
is_nowhere (Err e) = true

abbrev pub broke_place : Place → ℕ
broke_place (Ok x) = 0
broke_place (Err e) = e.value

-- the columns of periods, of C1, of C2, of C1 + C2 and of section bounds; s synchronization processors of m
module _ (periods c1s c2s works sections : List ℕ) (s m : ℕ) where
  -- how task k fits processor p, beside the better-ranked tasks with these homes
  unfoldable pub fit_on : List ℕ → ℕ → ℕ → Fit
  fit_on homes k p = fit_among (terms_on periods works homes p k) (get_or c1s k 0) (get_or c2s k 0) (get_or sections k 0) (get_or periods k 0)

  -- the processors of the first k tasks
  unfoldable pub placed : ℕ → List ℕ
  placed zero = blank 64 0
  placed (suc k) = set (placed k) k (processor_of (place_among (fit_on (placed k) k) s m))

  -- where task k goes
  unfoldable pub place_of : ℕ → Place
  place_of k = place_among (fit_on (placed k) k) s m

  -- "The first that fits none", of n, or n
  unfoldable pub first_nowhere : ℕ → ℕ
  first_nowhere n = first n (λ k. is_nowhere (place_of k))

  -- the value that goes with it, 0 if each fits one
  unfoldable pub nowhere_value : ℕ → ℕ
  nowhere_value n = cond (ltb (first_nowhere n) n) (broke_place (place_of (first_nowhere n))) 0

  -- the places of the first k tasks
  unfoldable pub stages_to : ℕ → Stages
  stages_to k = record { processor = placed k; d1 = filled 64 0 k (λ j. d1_of (place_of j)); d2 = filled 64 0 k (λ j. d2_of (place_of j)) }

  -- all of them, or those before the first task that fits none
  unfoldable pub stages_of : ℕ → Result Stages Nowhere
  stages_of n = cond (ltb (first_nowhere n) n) (Err (record { task = first_nowhere n; value = nowhere_value n; placed = stages_to (first_nowhere n) })) (Ok (stages_to (first_nowhere n)))

-- the places that are answered, of all tasks or of those before the first that fits none
abbrev pub stages_in : Result Stages Nowhere → Stages
stages_in (Ok x) = x
stages_in (Err e) = e.placed
