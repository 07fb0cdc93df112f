-- What the columns of sections keep to.
use Rattle.std.specs.Prelude.{ℕ, ◌≤◌, ◌<◌, List, get_or}
use Rattle.bounds.specs.Demand.{GoodTerm}
use Rattle.bounds.specs.Terms.{term_at}

-- at most 64 tasks, whose sections are good terms, served by processors up to 16
pub record GoodSections (periods sections homes : List ℕ) (n : ℕ) : Type 0 where
  pub few : n ≤ 64
  pub terms : (k : ℕ) → k < n → GoodTerm (term_at periods sections k)
  pub served : (k : ℕ) → k < n → get_or homes k 0 ≤ 16
