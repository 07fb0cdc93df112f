-- The jobs of 64 rows as numbers side by side, nine for each: a code and a number for the place, the arrival, the three lengths,
-- the begun mark, the jobs ended and the units run.
use Rattle.std.specs.Prelude.{ℕ, ◌+◌, ◌-◌, ◌*◌, cond, List, [], ◌∷◌, get_or, ltb, eqb}
use Rattle.lists.specs.Tab.{tab}
use Rattle.chain.specs.declared.Place.{Place}
use Rattle.chain.specs.declared.Place.TheVariants.{Idle, Waiting, Running}
use Rattle.chain.specs.declared.Job.{Job}

-- the code of a place: 0 idle, 1 to 3 waiting for a part, 4 to 6 running one; and its number, a tick or the ticks left
unfoldable pub code_of : Place → ℕ
code_of Idle = 0
code_of (Waiting u j) = j + 1
code_of (Running j l) = j + 4

unfoldable pub number_of : Place → ℕ
number_of Idle = 0
number_of (Waiting u j) = u
number_of (Running j l) = l

-- the place that they stand for
unfoldable pub place_in : ℕ → ℕ → Place
place_in code number = cond (eqb code 0) Idle (cond (ltb code 4) (Waiting number (code - 1)) (Running (code - 4) number))

-- the nine numbers of a job
unfoldable pub numbers_of : Job → List ℕ
numbers_of x =
    code_of x.place ∷ number_of x.place
    ∷ x.arrived
    ∷ get_or x.lens 0 0 ∷ get_or x.lens 1 0 ∷ get_or x.lens 2 0
    ∷ x.begun ∷ x.ended ∷ x.ran
    ∷ []

-- the job of row i
unfoldable pub job_in : List ℕ → ℕ → Job
job_in flat i =
    record {
      place = place_in (get_or flat (9 * i) 0) (get_or flat (9 * i + 1) 0);
      arrived = get_or flat (9 * i + 2) 0;
      lens = get_or flat (9 * i + 3) 0 ∷ get_or flat (9 * i + 4) 0 ∷ get_or flat (9 * i + 5) 0 ∷ [];
      begun = get_or flat (9 * i + 6) 0;
      ended = get_or flat (9 * i + 7) 0;
      ran = get_or flat (9 * i + 8) 0;
    }

-- the jobs of 64 rows
unfoldable pub jobs_in : List ℕ → List Job
jobs_in flat = tab 64 (job_in flat)
