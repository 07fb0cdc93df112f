-- What a job still owes: "stages not yet released included".
use Rattle.std.specs.Prelude.{ℕ, zero, suc, ◌+◌, List, [], ◌∷◌}
use Rattle.chain.specs.Job.{Place, Idle, Waiting, Running}

-- the lengths from part j on
unfoldable pub lens_from : ℕ → List ℕ → ℕ
lens_from j [] = 0
lens_from zero (l ∷ ls) = l + lens_from zero ls
lens_from (suc j) (l ∷ ls) = lens_from j ls

-- what a job with these lengths owes in its place
unfoldable pub owes : List ℕ → Place → ℕ
owes ls Idle = 0
owes ls (Waiting u j) = lens_from j ls
owes ls (Running j l) = l + lens_from (suc j) ls
