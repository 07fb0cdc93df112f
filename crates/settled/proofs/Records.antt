-- The two public functions that are lent a run of records. The kit reads no claim off their contracts, so each is written down here, and is shown to be what the contract says.
use Prim.Native.Nat.{min}
use mathlib.Core.Path.{◌≡◌, refl, sym, ◌∙◌}
use seplogic.Ra.Ura.{Ura}
use base.Logic.{SProp, emp}
use prog.Memory.{Memory}
use prog.Routine.{Routine}
use types.Logic.{Logic}
use contract.Monad.{fact, Fun}
use contract.Lifetimes.{Lfts}
use denote.Triple.Entry.{Args, Res}
use denote.Triple.Clauses.{AtExit}
use lib.ListN.{length}
use Rattle.table.specs.Table.{reading_of}
use Rattle.arrivals.specs.Arrival.{flat_of}
use Rattle.run.specs.Answer.{run_answer, trace_after}
use Rattle.settled.specs.Settled.{Requires, Ensures, Settles}
use Rattle.arrivals.specs.contracts.taken_apart as taken_apart_contract
use Rattle.kieferntuch.specs.contracts.kieferntuch_run as kieferntuch_run_contract

abbrev pub apart_asks : Requires taken_apart_contract.ended
apart_asks κs a = Unit {0}

abbrev pub apart_says : Ensures taken_apart_contract.ended
apart_says κs (list, (flat, _)) r (list', (flat', _)) = flat'.now ≡ flat_of list.now (min (length list.now) 4096) flat.now

abbrev pub run_asks : Requires kieferntuch_run_contract.ended
run_asks κs a = Unit {0}

abbrev pub run_says : Ensures kieferntuch_run_contract.ended
run_says κs (table, (arrivals, (from, (ticks, (trace, _))))) r (_, (_, (_, (_, (trace', _))))) =
    (r ≡ run_answer (reading_of table.now) arrivals.now from ticks (length trace.now))
    × (trace'.now ≡ trace_after (reading_of table.now) arrivals.now from ticks trace.now)

module _ {M : Type 1} {𝓤 : Ura M} (𝓛 : Logic 𝓤) (mem : Memory → SProp 𝓤) (run : Routine → Fun 𝓤) where
  pub apart_reads_asks : (κs : Lfts (taken_apart_contract.ended).signature.lifetimes) (a : Args (taken_apart_contract.ended).signature κs) → (taken_apart_contract.clauses 𝓛 mem run κs a).requires tt ≡ emp 𝓤
  apart_reads_asks κs a = refl

  pub apart_reads : (κs : Lfts (taken_apart_contract.ended).signature.lifetimes) (a : Args (taken_apart_contract.ended).signature κs) (r : Res (taken_apart_contract.ended).signature κs) (e : AtExit taken_apart_contract.ended κs) → (taken_apart_contract.clauses 𝓛 mem run κs a).ensures tt r e ≡ fact 𝓤 (apart_says κs a r e)
  apart_reads κs a r e = refl

  pub run_reads : (κs : Lfts (kieferntuch_run_contract.ended).signature.lifetimes) (a : Args (kieferntuch_run_contract.ended).signature κs) (r : Res (kieferntuch_run_contract.ended).signature κs) (e : AtExit kieferntuch_run_contract.ended κs) → (kieferntuch_run_contract.clauses 𝓛 mem run κs a).ensures tt r e ≡ fact 𝓤 (run_says κs a r e)
  run_reads κs a r e = refl

taken_apart_settled : Settles taken_apart_contract.ended apart_asks apart_says
taken_apart_settled κs a r s h p q = (refl, λ i. (tt, ((p ∙ sym q) i, tt)))

kieferntuch_run_settled : Settles kieferntuch_run_contract.ended run_asks run_says
kieferntuch_run_settled κs a r s h p q = (p.0 ∙ sym q.0, λ i. (tt, (tt, (tt, (tt, ((p.1 ∙ sym q.1) i, tt))))))
