-- A task's place in its chain, and its job: "A task is idle, waiting until a named tick, or running a stage with ticks left."
-- A chain has three parts: part 0 is stage one, part 1 the section, part 2 stage two.
use Rattle.std.specs.Prelude.{ℕ, ◌+◌, Bool, true, false, cond, List, [], ◌∷◌, get_or}
pub use Rattle.chain.specs.declared.Place.{Place}
pub use Rattle.chain.specs.declared.Place.TheVariants.{Idle, Waiting, Running}
pub use Rattle.chain.specs.declared.Job.{Job}

-- a task that has not arrived yet
abbrev pub no_job : Job
no_job = record { place = Idle; arrived = 0; lens = 0 ∷ 0 ∷ 0 ∷ []; begun = 0; ended = 0; ran = 0 }

-- the job of row i, counted from 0
abbrev pub job_at : List Job → ℕ → Job
job_at js i = get_or js i no_job

-- the task is idle
unfoldable pub is_idle : Place → Bool
is_idle Idle = true
is_idle (Waiting u j) = false
is_idle (Running j l) = false

-- the job has gone to the place p, and no part of it is begun: "A job ends with its stage two", and the task is idle
unfoldable pub moved : Job → Place → Job
moved x p =
    record {
      place = p;
      arrived = x.arrived;
      lens = x.lens;
      begun = 0;
      ended = x.ended + cond (is_idle p) 1 0;
      ran = x.ran;
    }
