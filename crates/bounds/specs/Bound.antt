-- The least bound that covers a demand.
use Rattle.std.specs.Prelude.{ℕ, suc, ◌+◌, ◌≤◌, ◌≡◌, List, Bool, true, false, cond, ◌&&◌, ltb, eqb, Result, Ok, Err}
use Rattle.lists.specs.First.{first}
use Rattle.bounds.specs.Demand.{Term, demand}
use Rattle.bounds.specs.Sequence.{sequence, first_above}
use Rattle.bounds.specs.declared.Broke.{Broke}

-- a bound, or, where there is none up to the limit, the value that broke it
abbrev pub Bound : Type 0
Bound = Result ℕ Broke

-- there is none: this value broke the limit
abbrev pub missing : ℕ → Bound
missing v = Err (record { value = v })

-- t is at least 1, and what is asked for within t is t: `own`, which is the length and what may block it, and the terms
abbrev pub meets : List Term → ℕ → ℕ → Bool
meets terms own t = ltb 0 t && eqb (own + demand terms t) t

-- "the least t ≥ 1 for which [the demand] equals t", if it is at most the limit; "Where a bound is missing the search answers the value that
-- broke the limit: the first member above it"
unfoldable pub least : List Term → ℕ → ℕ → Bound
least terms own limit =
    cond (ltb limit (first (suc limit) (meets terms own)))
    (missing (sequence terms own (first_above terms own limit)))
    (Ok (first (suc limit) (meets terms own)))

-- the bound of a length: 0 for none, "S is 0 without a section", "A stage of table length 0 has bound 0"
unfoldable pub bound_of : List Term → ℕ → ℕ → ℕ → Bound
bound_of terms len blocking limit = cond (eqb len 0) (Ok 0) (least terms (len + blocking) limit)

-- what an answer says: that there is no bound; the bound, 0 for none; and the value that broke the limit, 0 if none did
abbrev pub is_missing : Bound → Bool
is_missing (Ok t) = false
is_missing (Err e) = true

abbrev pub time_of : Bound → ℕ
time_of (Ok t) = t
time_of (Err e) = 0

abbrev pub broke_of : Bound → ℕ
broke_of (Ok t) = 0
broke_of (Err e) = e.value

-- t is the least time of at least 1 that covers what is asked for within it, and it is just that much
pub record Least (terms : List Term) (own t : ℕ) : Type 0 where
  pub some : 1 ≤ t
  pub same : own + demand terms t ≡ t
  pub below : (u : ℕ) → 1 ≤ u → own + demand terms u ≤ u → t ≤ u

-- the bound of a length that something may block: 0 for none, and otherwise the least time that covers
pub record LeastBound (terms : List Term) (len blocking bound : ℕ) : Type 0 where
  pub none : len ≡ 0 → bound ≡ 0
  pub some : 1 ≤ len → Least terms (len + blocking) bound
