-- Two runs of case P under the theorem, in each of which a bound is met exactly: that of a section which waits behind a lower-ranked one,
-- and that of one which a better-ranked one goes before.
use Prim.Native.Nat.{ℕ, ◌+◌}
use mathlib.Core.Path.{◌≡◌, refl}
use mathlib.Core.Bool.{true}
use mathlib.Core.List.{List, [], ◌∷◌}
use lib.ListN.{get_or}
use Rattle.table.specs.declared.Table.{Table}
use Rattle.table.specs.Table.{reading_of, number_in, table_in}
use Rattle.table.proofs.Given.{PCP, P as caseP, written}
use Rattle.table.proofs.Good.{table_good}
use Rattle.plan.specs.declared.Plan.{Plan}
use Rattle.plan.specs.Trial.{plan_in}
use Rattle.plan.specs.Planning.{is_planned, planned_of}
use Rattle.arrivals.specs.declared.Arrival.{Arrival}
use Rattle.arrivals.specs.Arrival.{brings}
use Rattle.arrivals.specs.Check.{number_heard}
use Rattle.chain.specs.declared.Place.{Place}
use Rattle.chain.specs.declared.Place.TheVariants.{Running}
use Rattle.machine.specs.Tick.{Arrivals, picked, released_at}
use Rattle.run.specs.Answer.{heard}
use Rattle.run.proofs.Given.{running}
use Rattle.intime.specs.Demand3.{bound_of, release_of, InTime, Ends, after, released, machine}
use Rattle.intime.proofs.Planned.{list_valid}
use Rattle.intime.proofs.Theorem.{demand_3}

-- case P under PCP
abbrev bytes_p : List ℕ
bytes_p = written (caseP PCP)

-- case P, and its plan
abbrev P : Table
P = table_in (reading_of bytes_p)

abbrev plan_p : Plan
plan_p = plan_in (planned_of P)

-- row 2 at tick 0, and row 1 at a tick, each with the table's lengths
abbrev two : ℕ → List Arrival
two tick = record { tick = 0; row = 2; len1 = 2; len2 = 3; len3 = 2 } ∷ record { tick = tick; row = 1; len1 = 1; len2 = 2; len3 = 1 } ∷ []

-- processor 1 in tick n: the row that it runs, numbered from 1
abbrev lane1 : Arrivals → ℕ → ℕ
lane1 ar n = get_or (picked (machine P plan_p ar) (released_at (machine P plan_p ar) ar n)) 1 0

-- row i in tick n: where its job is once the releases are in, and since when it is begun
abbrev row : Arrivals → ℕ → ℕ → Place × ℕ
row ar i n = ((released P plan_p ar n i).place, (released P plan_p ar n i).begun)

-- Row 1 arrives at 4. Its section, released at 5, waits in ticks 5 and 6 while the lower-ranked row 2 is at its section, begun in
-- tick 4; it runs in ticks 7 and 8 and ends at 9: exactly its bound of 4 later, so B could not be less by another unit.
pub record Waited (ar : Arrivals) : Type 0 where
  pub ranks : (get_or P.rank 0 0 ≡ 0) × (get_or P.rank 1 0 ≡ 1)
  pub release : release_of plan_p 0 4 1 ≡ 5
  pub bound : bound_of plan_p 0 1 ≡ 4
  pub waits : row ar 0 5 ≡ (Running 1 2, 0)
  pub lower : row ar 1 5 ≡ (Running 1 2, 5)
  pub lanes : (lane1 ar 5 ≡ 2) × (lane1 ar 6 ≡ 2) × (lane1 ar 7 ≡ 1) × (lane1 ar 8 ≡ 1)
  pub ends : Ends P plan_p ar 0 4 1 (1 ∷ 2 ∷ 1 ∷ []) (5 + 4)

-- Row 1 arrives at 3. Row 2's section, released at 4 together with row 1's, ends at 9: exactly its bound of 5 later.
pub record Exact (ar : Arrivals) : Type 0 where
  pub release : release_of plan_p 1 0 1 ≡ 4
  pub bound : bound_of plan_p 1 1 ≡ 5
  pub ends : Ends P plan_p ar 1 0 1 (2 ∷ 3 ∷ 2 ∷ []) (4 + 5)

-- what the definitions compute of both
record Computed : Type 0 where
  read : number_in (reading_of bytes_p) ≡ 0
  planned : is_planned (planned_of P) ≡ true
  heard4 : number_heard (heard P (two 4)) ≡ 0
  heard3 : number_heard (heard P (two 3)) ≡ 0
  at4 : Waited (brings (two 4))
  at3 : Exact (brings (two 3))

-- all of it is computed
computed : Computed
unfolding running bound_of release_of
computed =
    record {
      read = refl;
      planned = refl;
      heard4 = refl;
      heard3 = refl;
      at4 =
          record {
            ranks = (refl, refl);
            release = refl;
            bound = refl;
            waits = refl;
            lower = refl;
            lanes = (refl, refl, refl, refl);
            ends = after 8 refl refl refl refl;
          };
      at3 = record { release = refl; bound = refl; ends = after 8 refl refl refl refl };
    }

-- the theorem speaks of both
under : (tick : ℕ) → number_heard (heard P (two tick)) ≡ 0 → InTime P plan_p (brings (two tick))
under tick good =
    demand_3 bytes_p computed.read computed.planned (brings (two tick))
    (list_valid P (table_good bytes_p (reading_of bytes_p) refl computed.read) (two tick) good)

-- the theorem holds of both runs: in the first a section waits and meets its bound exactly,
pub waited : InTime P plan_p (brings (two 4)) × Waited (brings (two 4))
waited = (under 4 computed.heard4, computed.at4)

-- in the second so does one that is not blocked
pub exact : InTime P plan_p (brings (two 3)) × Exact (brings (two 3))
exact = (under 3 computed.heard3, computed.at3)
