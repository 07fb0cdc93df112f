-- A run of a table that is given in numbers, for worked examples.
use Prim.Native.Nat.{ℕ}
use mathlib.Core.List.{List}
use lib.ListN.{length}
use Rattle.lists.specs.Tab.{joined}
use Rattle.lists.specs.Total.{total}
use Rattle.table.proofs.Given.{Given, reading}
use Rattle.plan.proofs.Given.{planning}
use Rattle.arrivals.specs.declared.Arrival.{Arrival}
use Rattle.arrivals.specs.Arrival.{is_of, brings}
use Rattle.arrivals.specs.Check.{disordered, last_of, number_at, first_bad, heard_of}
use Rattle.chain.specs.Job.{is_idle, moved}
use Rattle.chain.specs.Release.{off, starts, enter, wake_at, admit, overdue_at, too_soon, late}
use Rattle.chain.specs.Unit.{mark, next, unit_of}
use Rattle.chain.specs.Owed.{lens_from, owes}
use Rattle.picks.specs.Best.{beat, best, every}
use Rattle.picks.specs.Pick.{section_on, stage_on, chosen, waits, holds, ready, first_on, last_on, stage_for, clear, pick}
use Rattle.machine.specs.Chart.{threes, tops_of, chart_of}
use Rattle.machine.specs.Tick.{serve_at, kind_of, byte_of, noted_at, noted, noted_to, releases, late_row, picked, units, bytes, worse, step, jobs_at, released_at, bytes_at, worst_at, late_at}
use Rattle.machine.specs.Counts.{tally_of}
use Rattle.run.specs.Run.{Ran, log, stepped_of, shown_of}
use Rattle.run.specs.Answer.{call_number, call_names, call_answer, table_answer, run_answer, trace_after}

-- its answer, and the trace once it is over; whoever unfolds this unfolds all that reading, planning and running compute by
unfoldable pub running : Given → List Arrival → ℕ → ℕ → List ℕ → Ran × List ℕ
unfolding planning joined total is_of brings disordered last_of number_at first_bad heard_of is_idle moved off starts enter wake_at admit overdue_at too_soon late mark next unit_of lens_from owes beat best every section_on stage_on chosen waits holds ready first_on last_on stage_for clear pick threes tops_of chart_of serve_at kind_of byte_of noted_at noted noted_to releases late_row picked units bytes worse step jobs_at released_at bytes_at worst_at late_at tally_of log stepped_of shown_of call_number call_names call_answer table_answer run_answer trace_after
running t arrivals f w trace = (run_answer (reading t) arrivals f w (length trace), trace_after (reading t) arrivals f w trace)
