-- The demand of a list of terms, for sections and stages alike.
use Rattle.std.specs.Prelude.{ℕ, ◌+◌, ◌-◌, ◌*◌, ◌/◌, ◌≤◌, ◌<◌, List, [], ◌∷◌, length, get_or}
use Rattle.bounds.specs.declared.Term as declared

-- what a better-ranked task asks for: a length, once in each period
abbrev pub Term : Type 0
Term = declared.Term

-- ceil(t / T)
unfoldable pub ceil : ℕ → ℕ → ℕ
ceil t period = (t + (period - 1)) / period

-- "the sum .. of ceil(t / T_i) × A_i"
unfoldable pub demand : List Term → ℕ → ℕ
demand [] t = 0
demand (x ∷ xs) t = ceil t x.period * x.len + demand xs t

-- a term of a good table: "T 1 to 1,000,000", and no length is above its period
pub record GoodTerm (x : Term) : Type 0 where
  pub period : (1 ≤ x.period) × (x.period ≤ 1000000)
  pub short : x.len ≤ x.period

-- what is read past the end of a list of terms
abbrev pub no_term : Term
no_term = record { period = 0; len = 0 }

-- each of the terms is good
abbrev pub GoodTerms : List Term → Type 0
GoodTerms xs = (i : ℕ) → i < length xs → GoodTerm (get_or xs i no_term)
