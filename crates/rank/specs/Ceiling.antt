-- "A resource's ceiling is the best rank among its users."
use Rattle.std.specs.Prelude.{ℕ, zero, suc, min, List, Bool, cond, ◌&&◌, get_or, ltb, eqb}
use Rattle.lists.specs.Tab.{tab}

-- a row that names resource `named` uses resource r; 0 is none
abbrev pub uses : ℕ → ℕ → Bool
uses named r = ltb 0 r && eqb named r

-- the best rank among the users of r in the first n rows; 64, past all ranks, if there is none
unfoldable pub ceiling_of : List ℕ → List ℕ → ℕ → ℕ → ℕ
ceiling_of resources ranks zero r = 64
ceiling_of resources ranks (suc k) r =
    cond (uses (get_or resources k 0) r)
    (min (get_or ranks k 0) (ceiling_of resources ranks k r))
    (ceiling_of resources ranks k r)

-- the ceilings of resources 1 to 16, each at its number
unfoldable pub ceilings_of : List ℕ → List ℕ → ℕ → List ℕ
ceilings_of resources ranks n = tab 17 (ceiling_of resources ranks n)
