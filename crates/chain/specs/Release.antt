-- Releases of row i. A bound stands for each part of each row, three to a row.
use Rattle.std.specs.Prelude.{ℕ, zero, suc, ◌+◌, ◌-◌, ◌*◌, Bool, false, cond, not, ◌&&◌, ◌||◌, List, get_or, leb, ltb, Option, Some, None}
use Rattle.chain.specs.Job.{Place, Idle, Waiting, Running, Job, is_idle, moved}

-- how long after the arrival part j comes: the bounds of the parts before it
unfoldable pub off : List ℕ → ℕ → ℕ → ℕ
off bounds i zero = 0
off bounds i (suc j) = off bounds i j + get_or bounds (3 * i + j) 0

-- later than every tick
abbrev pub never : ℕ
never = 4294967295

module _ (bounds : List ℕ) (i : ℕ) where
  -- "Stage one is released at a, the section at a + D1, stage two at a + D1 + S, fixed, however early the one before ended."
  abbrev pub release : ℕ → ℕ → ℕ
  release a j = a + off bounds i j

  -- "A stage of actual length 0 ends at its release, in the tick that releases it": the job goes on to the rest
  unfoldable pub starts : ℕ → ℕ → Place → Place
  starts j zero rest = rest
  starts j (suc l) rest = Running j (suc l)

  -- where the job that arrived at a with these lengths is once the releases of tick t are in, from part j on, n parts in all
  unfoldable pub enter : ℕ → List ℕ → ℕ → ℕ → ℕ → Place
  enter a ls t zero j = Idle
  enter a ls t (suc n) j =
      cond (leb (release a j) t)
      (starts j (get_or ls j 0) (enter a ls t n (suc j)))
      (Waiting (release a j) j)

  -- "due releases of jobs already there"
  unfoldable pub wake_at : ℕ → Job → Place → Job
  wake_at t x Idle = x
  wake_at t x (Waiting u j) = cond (leb u t) (moved x (enter x.arrived x.lens t (3 - j) j)) x
  wake_at t x (Running j l) = x

  abbrev pub wake : ℕ → Job → Job
  wake t x = wake_at t x x.place

  -- "then arrivals": the job of an arrival at tick t, in the place p
  abbrev pub fresh : ℕ → Job → List ℕ → Place → Job
  fresh t x ls p = record { place = p; arrived = t; lens = ls; begun = 0; ended = x.ended; ran = x.ran }

  -- "then releases that an arrival makes due at once"
  unfoldable pub admit : ℕ → Job → Option (List ℕ) → Job
  admit t x None = x
  admit t x (Some ls) = moved (fresh t x ls (enter t ls t 3 0)) (enter t ls t 3 0)

  -- the job once the releases of tick t are in, where an arrival brings these lengths, or none comes
  abbrev pub released : ℕ → Job → Option (List ℕ) → Job
  released t x came = admit t (wake t x) came

  -- 19: "a stage released while an earlier one of its task is unfinished": the next part is due while one runs,
  unfoldable pub overdue_at : ℕ → ℕ → Place → Bool
  overdue_at t a Idle = false
  overdue_at t a (Waiting u j) = false
  overdue_at t a (Running j l) = ltb j 2 && leb (release a (suc j)) t

  abbrev pub overdue : ℕ → Job → Bool
  overdue t x = overdue_at t x.arrived x.place

  -- or an arrival finds its task not idle
  unfoldable pub too_soon : Job → Option (List ℕ) → Bool
  too_soon x None = false
  too_soon x (Some ls) = not (is_idle x.place)

  -- 19 is given for the row in tick t
  unfoldable pub late : ℕ → Job → Option (List ℕ) → Bool
  late t x came = too_soon (wake t x) came || overdue t (released t x came)

  -- the next tick with a release of the job: of what it waits for, or of the part behind its running one
  unfoldable pub due_at : ℕ → Place → ℕ
  due_at a Idle = never
  due_at a (Waiting u j) = u
  due_at a (Running j l) = cond (ltb j 2) (release a (suc j)) never

  abbrev pub due_of : Job → ℕ
  due_of x = due_at x.arrived x.place
