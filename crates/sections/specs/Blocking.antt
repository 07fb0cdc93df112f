-- "Blocking B of task k." Tasks are numbered by rank; a task's home is the processor that serves its resource, 0 without a
-- section, and its top is the ceiling of its resource.
use Rattle.std.specs.Prelude.{ℕ, ◌-◌, List, Bool, ◌&&◌, ◌||◌, get_or, ltb, leb, eqb}
use Rattle.lists.specs.Largest.{largest}

-- PCP: i is "a lower-ranked task on the same processor whose resource has a ceiling at or above k's rank"; NPP: "any lower-ranked task there"
unfoldable pub may_block : Bool → List ℕ → List ℕ → ℕ → ℕ → Bool
may_block npp tops homes k i = ltb k i && (eqb (get_or homes i 0) (get_or homes k 0) && (npp || leb (get_or tops i 0) k))

-- "the largest such A", 0 if there is none
unfoldable pub largest_a : Bool → List ℕ → List ℕ → List ℕ → ℕ → ℕ → ℕ
largest_a npp sections tops homes n k = largest n (may_block npp tops homes k) (λ i. get_or sections i 0)

-- "B is the largest such A less 1, under both protocols, and still 0 if there is none": it ran a unit before
unfoldable pub blocking_of : Bool → List ℕ → List ℕ → List ℕ → ℕ → ℕ → ℕ
blocking_of npp sections tops homes n k = largest_a npp sections tops homes n k - 1
