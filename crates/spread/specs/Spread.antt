-- "Heaviest first .., each goes to the least loaded of 1 to s (ties: lower number)."
use Rattle.std.specs.Prelude.{ℕ, zero, suc, ◌+◌, ◌<◌, ◌≤◌, List, cond, get_or, set, ltb}
use Rattle.lists.specs.Tab.{blank}

-- the least loaded of processors 1 to s
unfoldable pub lightest_of : List ℕ → ℕ → ℕ
lightest_of loads zero = 1
lightest_of loads (suc p) = cond (ltb (get_or loads (suc p) 0) (get_or loads (lightest_of loads p) 0)) (suc p) (lightest_of loads p)

-- processor p is "the least loaded of 1 to s (ties: lower number)"
pub record Lightest (loads : List ℕ) (s p : ℕ) : Type 0 where
  pub first : 1 ≤ p
  pub last : p ≤ s
  pub least : (q : ℕ) → 1 ≤ q → q ≤ s → get_or loads p 0 ≤ get_or loads q 0
  pub lower : (q : ℕ) → 1 ≤ q → q < p → get_or loads p 0 < get_or loads q 0

-- the loads with a weight more on processor p
abbrev pub loaded : List ℕ → ℕ → ℕ → List ℕ
loaded loads p weight = set loads p (get_or loads p 0 + weight)

-- the load of each processor at its number, once the first j resources of the order went to the least loaded of 1 to s, one by one
unfoldable pub loads_of : List ℕ → List ℕ → ℕ → ℕ → List ℕ
loads_of weights order s zero = blank 17 0
loads_of weights order s (suc j) =
    loaded (loads_of weights order s j) (lightest_of (loads_of weights order s j) s) (get_or weights (get_or order j 0) 0)

-- the processor of each of the first j resources of the order, at its number; 0 for the others
unfoldable pub serves_of : List ℕ → List ℕ → ℕ → ℕ → List ℕ
serves_of weights order s zero = blank 17 0
serves_of weights order s (suc j) = set (serves_of weights order s j) (get_or order j 0) (lightest_of (loads_of weights order s j) s)
