-- The values that a search goes through: "the sequence that starts with the length plus B and goes on with the demand at the last value".
-- `own` is the length plus B; members count from 0.
use Rattle.std.specs.Prelude.{ℕ, zero, suc, ◌+◌, ◌≤◌, ◌<◌, ◌≡◌, List, ltb}
use Rattle.lists.specs.First.{first}
use Rattle.bounds.specs.Demand.{Term, demand}

unfoldable pub sequence : List Term → ℕ → ℕ → ℕ
sequence terms own zero = own
sequence terms own (suc i) = own + demand terms (sequence terms own i)

-- the place of the first member above the limit; where no bound is up to the limit, it is one of 0 to `limit`, since each member is larger
-- than the one before
unfoldable pub first_above : List Term → ℕ → ℕ → ℕ
first_above terms own limit = first (suc limit) (λ i. ltb limit (sequence terms own i))

-- t is a member, and none before it is above the limit
pub record Reached (terms : List Term) (own limit t : ℕ) : Type 0 where
  pub place : ℕ
  pub is : sequence terms own place ≡ t
  pub before : (j : ℕ) → j < place → sequence terms own j ≤ limit

-- v is "the value that broke the limit: the first member above it"
abbrev pub Breaks : List Term → ℕ → ℕ → ℕ → Type 0
Breaks terms own limit v = Reached terms own limit v × (limit < v)
