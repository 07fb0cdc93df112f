-- "A resource weighs the sum of ceil(A × 1,000,000 / T) over its users."
use Rattle.std.specs.Prelude.{ℕ, zero, suc, ◌+◌, ◌-◌, ◌*◌, ◌<◌, ◌≤◌, ◌≡◌, List, true, cond, ◌⊎◌, get_or, ltb}
use Rattle.lists.specs.Tab.{tab, filled}
use Rattle.lists.specs.Count.{count}
use Rattle.rank.specs.Rank.{ranks_of}
use Rattle.rank.specs.Ceiling.{uses}
use Rattle.rank.specs.Order.{in_rank, numbers_to}
use Rattle.bounds.specs.Demand.{ceil}

-- each of the first n rows has a period of a good table, and a section no longer than it
abbrev pub GoodRows : List ℕ → List ℕ → ℕ → Type 0
GoodRows periods sections n =
    (k : ℕ) → k < n → (1 ≤ get_or periods k 0) × (get_or periods k 0 ≤ 1000000) × (get_or sections k 0 ≤ get_or periods k 0)

-- what resource r weighs, by its users among the first n rows
unfoldable pub weight_of : List ℕ → List ℕ → List ℕ → ℕ → ℕ → ℕ
weight_of periods sections resources zero r = 0
weight_of periods sections resources (suc k) r =
    weight_of periods sections resources k r
    + cond (uses (get_or resources k 0) r) (ceil (get_or sections k 0 * 1000000) (get_or periods k 0)) 0

-- the weights of resources 1 to 16, each at its number
unfoldable pub weights_of : List ℕ → List ℕ → List ℕ → ℕ → List ℕ
weights_of periods sections resources n = tab 17 (weight_of periods sections resources n)

-- no resource weighs more than 64 users of a good table can
abbrev pub GoodWeights : List ℕ → Type 0
GoodWeights weights = (r : ℕ) → r < 17 → get_or weights r 0 ≤ 64000000

-- "Let u be the number of resources used": those of 1 to 16 that weigh something
unfoldable pub used_of : List ℕ → ℕ
used_of weights = count 16 (λ r. ltb 0 (get_or weights (r + 1) 0))

-- resource r is used: one of the first n rows uses it
abbrev pub Used : List ℕ → ℕ → ℕ → Type 0
Used resources r n = (k : ℕ) × (k < n) × (uses (get_or resources k 0) r ≡ true)

-- what each of 16 resources lacks to the most that it can weigh: the heaviest lacks least
unfoldable pub lacks_of : List ℕ → List ℕ
lacks_of weights = filled 64 0 16 (λ r. 64000000 - get_or weights (r + 1) 0)

-- the numbers of the resources, heaviest first: ranked by what they lack, as rows are by their periods
unfoldable pub heaviest_of : List ℕ → List ℕ
heaviest_of weights = in_rank (ranks_of (lacks_of weights) 16) 16 (numbers_to 16)

-- resource r comes before resource q: "Heaviest first (ties: lower number)"
abbrev pub Before : List ℕ → ℕ → ℕ → Type 0
Before weights r q = (get_or weights q 0 < get_or weights r 0) ⊎ ((get_or weights q 0 ≡ get_or weights r 0) × (r < q))
