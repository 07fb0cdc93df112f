-- Lists given by a rule for each place.
use Rattle.std.specs.Prelude.{ℕ, zero, suc, ◌-◌, List, [], ◌∷◌, ◌++◌, replicate}

-- f 0, f 1, .. up to f (n - 1)
unfoldable pub tab : {A : Type 0} → ℕ → (ℕ → A) → List A
tab zero f = []
tab (suc n) f = tab n f ++ (f n ∷ [])

-- the lists f 0, f 1, .. up to f (n - 1), one behind the other
unfoldable pub joined : {A : Type 0} → ℕ → (ℕ → List A) → List A
joined zero f = []
joined (suc n) f = joined n f ++ f n

-- an array of `size` places, z at each
unfoldable pub blank : {A : Type 0} → ℕ → A → List A
blank size z = replicate size z

-- an array of `size` places: f at the first n of them, and z at the others
unfoldable pub filled : {A : Type 0} → ℕ → A → ℕ → (ℕ → A) → List A
filled size z n f = tab n f ++ replicate (size - n) z
