-- One unit of row i.
use Rattle.std.specs.Prelude.{ℕ, zero, suc, ◌+◌, ◌-◌, cond, List, ltb}
use Rattle.chain.specs.Job.{Place, Idle, Waiting, Running, Job, moved}
use Rattle.chain.specs.Release.{release}

-- the begun mark of a part that has run in tick t: it stays, if it ran before
unfoldable pub mark : ℕ → ℕ → ℕ
mark t zero = suc t
mark t (suc b) = suc b

-- the job in another place, and one unit more run, in tick t
abbrev pub running : ℕ → Job → Place → Job
running t x p = record { place = p; arrived = x.arrived; lens = x.lens; begun = mark t x.begun; ended = x.ended; ran = x.ran + 1 }

module _ (bounds : List ℕ) (i : ℕ) where
  -- "One whose last unit runs in tick t ends at t + 1"; the response is "end minus release"
  abbrev pub response : ℕ → ℕ → ℕ → ℕ
  response t a j = suc t - release bounds i a j

  -- where the job goes when part j has ended: it waits for the next one, "fixed, however early the one before ended"
  unfoldable pub next : ℕ → ℕ → Place
  next a j = cond (ltb j 2) (Waiting (release bounds i a (suc j)) (suc j)) Idle

  -- the job when its part j, with l ticks left, has run a unit in tick t
  unfoldable pub unit_of : ℕ → Job → ℕ → ℕ → Job
  unit_of t x j l =
      cond (ltb 1 l)
      (running t x (Running j (l - 1)))
      (moved (running t x (next x.arrived j)) (next x.arrived j))

-- the job when its part j, with l ticks left, has run k units from tick t on, and has not ended
unfoldable pub pushed : ℕ → ℕ → Job → ℕ → ℕ → Job
pushed t zero x j l = x
pushed t (suc k) x j l =
    record {
      place = Running j (l - suc k);
      arrived = x.arrived;
      lens = x.lens;
      begun = mark t x.begun;
      ended = x.ended;
      ran = x.ran + suc k;
    }

-- the same of a job in its place: one that runs no part stays as it is
unfoldable pub push_at : ℕ → ℕ → Job → Place → Job
push_at t k x Idle = x
push_at t k x (Waiting u j) = x
push_at t k x (Running j l) = pushed t k x j l

abbrev pub push : ℕ → ℕ → Job → Job
push t k x = push_at t k x x.place
