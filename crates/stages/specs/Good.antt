-- What the columns of stages keep to.
use Rattle.std.specs.Prelude.{ℕ, ◌+◌, ◌≤◌, ◌<◌, List, ◌≡◌, get_or}

-- at most 64 tasks on processors s + 1 to m, with periods of a good table and lengths and section bounds within them
pub record GoodStages (periods c1s c2s works sections : List ℕ) (n s m : ℕ) : Type 0 where
  pub few : n ≤ 64
  pub processors : (s < m) × (m ≤ 16)
  pub period : (k : ℕ) → k < n → (1 ≤ get_or periods k 0) × (get_or periods k 0 ≤ 1000000)
  pub work : (k : ℕ) → k < n → (get_or works k 0 ≡ get_or c1s k 0 + get_or c2s k 0) × (get_or works k 0 ≤ get_or periods k 0)
  pub section : (k : ℕ) → k < n → get_or sections k 0 ≤ get_or periods k 0
