-- The terms that count in a bound. Tasks are numbered by rank, so that the better-ranked tasks of task k are those below k.
use Rattle.std.specs.Prelude.{ℕ, zero, suc, ◌*◌, List, [], ◌∷◌, ◌++◌, cond, get_or, take, drop, eqb}
use Rattle.bounds.specs.Demand.{Term}

-- task i's term, from the columns of periods and lengths
abbrev pub term_at : List ℕ → List ℕ → ℕ → Term
term_at periods lens i = record { period = get_or periods i 0; len = get_or lens i 0 }

-- the terms of the first k tasks that are on processor p
unfoldable pub terms_on : List ℕ → List ℕ → List ℕ → ℕ → ℕ → List Term
terms_on periods lens homes p zero = []
terms_on periods lens homes p (suc k) = terms_on periods lens homes p k ++ cond (eqb (get_or homes k 0) p) (term_at periods lens k ∷ []) []

-- the first n terms in processor p's lane: 64 places of an array are for each processor
unfoldable pub lane : List Term → ℕ → ℕ → List Term
lane terms p n = take n (drop (64 * p) terms)
