-- What a refused run answers: "Numbers for no".
use Rattle.std.specs.Prelude.{Result, Ok, Err}
use Rattle.table.specs.Table.{number_of, names_of}
use Rattle.plan.specs.Trial.{mark_number}
use Rattle.arrivals.specs.Check.{fault_number}
use Rattle.run.specs.declared.Refusal.{Refusal}
use Rattle.run.specs.declared.Refusal.TheVariants.{Table, NoPlan, Window, Trace, Arrivals, Unheard, TooEarly}
use Rattle.run.specs.Run.{Ran, refused}

-- the paper's number, what it names, its mark and its value: 1 to 9, 11 to 14, 15 to 18, and 19
unfoldable pub refusal_answer : Refusal → Ran
refusal_answer (Table e) = refused (number_of e) (names_of e) 0 0
refusal_answer (NoPlan e) = refused 11 e.row (mark_number e.mark) e.value
refusal_answer Window = refused 12 0 0 0
refusal_answer Trace = refused 13 0 0 0
refusal_answer Arrivals = refused 14 0 0 0
refusal_answer (Unheard e) = refused (fault_number e.fault) e.position 0 0
refusal_answer (TooEarly row) = refused 19 row 0 0

-- what a run answers that is refused with a number, or not refused
abbrev pub answered : Result Ran Refusal → Ran
answered (Ok ran) = ran
answered (Err e) = refusal_answer e
