-- A run: "It steps ticks 0 to f + w − 1 and writes ticks f on".
use Rattle.std.specs.Prelude.{ℕ, suc, ◌+◌, ◌*◌, Bool, cond, List, ◌++◌, drop, ltb}
use Rattle.lists.specs.Tab.{joined, blank}
use Rattle.lists.specs.First.{first}
use Rattle.arrivals.specs.declared.Arrival.{Arrival}
use Rattle.arrivals.specs.Arrival.{brings}
use Rattle.machine.specs.declared.Chart.{Chart}
use Rattle.machine.specs.declared.Tally.{Tally}
use Rattle.machine.specs.Tick.{jobs_at, bytes_at, worst_at, late_at}
use Rattle.machine.specs.Counts.{tally_of}
pub use Rattle.run.specs.declared.Ran.{Ran}

-- "All else that a refused call returns is 0"
abbrev pub refused : ℕ → ℕ → ℕ → ℕ → Ran
refused number names mark value = record { number = number; names = names; mark = mark; value = value; worst = blank 192 0; jobs = 0; run = 0; owed = 0 }

-- an answer without refusal
abbrev pub done : List ℕ → Tally → Ran
done worst tally = record { number = 0; names = 0; mark = 0; value = 0; worst = worst; jobs = tally.jobs; run = tally.run; owed = tally.owed }

module _ (c : Chart) (xs : List Arrival) where
  -- a release comes too early in tick t
  abbrev pub is_late : ℕ → Bool
  is_late t = ltb (late_at c (brings xs) t) c.n

  -- "the earliest such release": its tick, of the first e ticks; e if there is none
  abbrev pub late_tick : ℕ → ℕ
  late_tick e = first e is_late

  -- the bytes of w ticks from tick f on
  unfoldable pub log : ℕ → ℕ → List ℕ
  log f w = joined w (λ k. bytes_at c (brings xs) (f + k))

  -- what the ticks answer: 19 "names the row of the earliest such release, on one tick the lowest row"
  unfoldable pub stepped_of : ℕ → ℕ → Ran
  stepped_of f w =
      cond (ltb (late_tick (f + w)) (f + w))
      (refused 19 (suc (late_at c (brings xs) (late_tick (f + w)))) 0 0)
      (done (worst_at c (brings xs) (f + w)) (tally_of c.n (jobs_at c (brings xs) (f + w))))

  -- the trace: "Bytes past m × w are untouched"; "19 leaves the m × w trace bytes zero"
  unfoldable pub shown_of : ℕ → ℕ → List ℕ → List ℕ
  shown_of f w trace =
      cond (ltb (late_tick (f + w)) (f + w))
      (blank (c.m * w) 0)
      (log f w)
      ++ drop (c.m * w) trace
