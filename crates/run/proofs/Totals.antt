-- What the answers of calls that are not refused come to.
use Rattle.std.specs.Prelude.{Result}
use Prim.Native.Nat.{ℕ, ◌+◌, ◌*◌, ◌≤◌, ◌<◌}
use mathlib.Core.Path.{◌≡◌, refl, sym, ◌∙◌, ap}
use mathlib.Core.Bool.{false}
use mathlib.Core.List.{List}
use native.Mathlib.Omega.{arith}
use native.Mathlib.Nat.{zero-add}
use lib.ListN.{length, take, drop}
use lib.Seq.{take_at}
use Rattle.lists.proofs.First.{first_no}
use Rattle.table.specs.declared.Table.{Table}
use Rattle.table.specs.declared.Refusal.{Refusal}
use Rattle.table.specs.Table.{table_in}
use Rattle.table.specs.Table.{reading_of}
use Rattle.table.specs.Good.{GoodTable}
use Rattle.table.proofs.Good.{table_good}
use Rattle.arrivals.specs.declared.Arrival.{Arrival}
use Rattle.arrivals.specs.Arrival.{brings}
use Rattle.arrivals.specs.Seek.{GoodArrivals}
use Rattle.arrivals.proofs.Good.{arrivals_good}
use Rattle.machine.specs.Chart.{chart_of}
use Rattle.machine.specs.Tick.{jobs_at}
use Rattle.run.specs.Run.{Ran, is_late, log}
use Rattle.run.specs.Answer.{run_answer, trace_after}
use Rattle.run.specs.Brought.{brought, arrived, still_there, busy}
use Rattle.run.proofs.Accepted.{ran_to, chart_in, Accepted, run_accepted, trace_accepted}
use Rattle.run.proofs.Window.{length-log, window_front}
use Rattle.run.proofs.Lengths.{run_and_owed, jobs_and_open}
use Rattle.run.proofs.Units.{units_are_busy_bytes}
use Rattle.run.proofs.Seats.{planned_seated}

module _ (bytes : List ℕ) (xs : List Arrival) where
  -- what the bytes say, and the table
  abbrev read : Result Table Refusal
  read = reading_of bytes

  abbrev table : Table
  table = table_in read

  module _ (f w size : ℕ) (answered : (run_answer read xs f w size).number ≡ 0) where
    -- what the call has passed
    accepted : Accepted read xs f w size
    accepted = run_accepted read xs f w size answered

    -- so the table is good,
    good : GoodTable table
    good = table_good bytes read refl accepted.read

    -- the arrivals are,
    heard : GoodArrivals table.n table.period table.c1 table.a table.c2 xs
    heard = arrivals_good table.n table.period table.c1 table.a table.c2 xs good.rows.1 accepted.heard_none

    -- and no release comes too early
    in_time : (t : ℕ) → t < f + w → is_late (chart_in table) xs t ≡ false
    in_time t l = first_no (f + w) (is_late (chart_in table) xs) t (omega (arith, accepted.in_time))

    -- "run plus owed equals all lengths brought by arrivals before f + w"
    pub run_plus_owed : (run_answer read xs f w size).run + (run_answer read xs f w size).owed ≡ brought xs (f + w)
    unfolding chart_of
    run_plus_owed =
        ap (λ (x : Ran). x.run + x.owed) accepted.answer
        ∙ run_and_owed (chart_in table) table.period table.c1 table.a table.c2 xs heard (f + w) in_time

    -- the jobs ended and those that are still there are as many as the arrivals before f + w,
    pub jobs_plus_open : (run_answer read xs f w size).jobs + still_there table.n (jobs_at (chart_in table) (brings xs) (f + w)) ≡ arrived xs (f + w)
    unfolding chart_of
    jobs_plus_open =
        ap (λ (x : Ran). x.jobs + still_there table.n (jobs_at (chart_in table) (brings xs) (f + w))) accepted.answer
        ∙ jobs_and_open (chart_in table) table.period table.c1 table.a table.c2 xs heard (f + w) in_time

    -- so no more jobs end than have arrived
    pub jobs_arrived : (run_answer read xs f w size).jobs ≤ arrived xs (f + w)
    jobs_arrived = omega (arith, jobs_plus_open)

    -- units run are the busy bytes of all ticks that are stepped
    pub run_is_busy : (run_answer read xs f w size).run ≡ busy (log (chart_in table) xs 0 (f + w))
    unfolding chart_of
    run_is_busy =
        ap (λ (x : Ran). x.run) accepted.answer
        ∙ units_are_busy_bytes (chart_in table) table.period table.c1 table.a table.c2 xs heard (planned_seated table good accepted.planned) (f + w)

  -- so they are those of the trace of a run from tick 0 on
  pub run_is_busy_trace : (w : ℕ) (trace : List ℕ) → (run_answer read xs 0 w (length trace)).number ≡ 0 → (run_answer read xs 0 w (length trace)).run ≡ busy (take (table.m * w) (trace_after read xs 0 w trace))
  unfolding chart_of
  run_is_busy_trace w trace answered =
      rw (trace_accepted read xs 0 w trace (run_accepted read xs 0 w (length trace) answered), take_at (log (chart_in table) xs 0 w) (drop (table.m * w) trace) (table.m * w) (length-log (chart_in table) xs 0 w))
      (run_is_busy 0 w (length trace) answered ∙ ap (λ (e : ℕ). busy (log (chart_in table) xs 0 e)) (zero-add w))

  -- a run of w ticks from tick f on is the window of the run of f + w ticks from tick 0 on: its answer is the same,
  module _ (f w : ℕ) where
    pub window_answer : (size all-size : ℕ) → (run_answer read xs f w size).number ≡ 0 → (run_answer read xs 0 (f + w) all-size).number ≡ 0 → run_answer read xs f w size ≡ run_answer read xs 0 (f + w) all-size
    window_answer size all-size a b =
        (run_accepted read xs f w size a).answer
        ∙ ap (ran_to (chart_in table) xs) (sym (zero-add (f + w)))
        ∙ sym (run_accepted read xs 0 (f + w) all-size b).answer

    -- and its trace the end of that one's
    pub window_trace : (trace all : List ℕ) → (run_answer read xs f w (length trace)).number ≡ 0 → (run_answer read xs 0 (f + w) (length all)).number ≡ 0 →
        take (table.m * w) (trace_after read xs f w trace) ≡ take (table.m * w) (drop (table.m * f) (trace_after read xs 0 (f + w) all))
    unfolding chart_of
    window_trace trace all a b =
        rw (trace_accepted read xs f w trace (run_accepted read xs f w (length trace) a), trace_accepted read xs 0 (f + w) all (run_accepted read xs 0 (f + w) (length all) b))
        (window_front (chart_in table) xs f w (drop (table.m * w) trace) (drop (table.m * (f + w)) all))
