-- `arrivals::check_arrivals` meets its contract. The loop's invariant: the first k arrivals have no refusal, and each row's mark is kept.
use Prim.Native.Nat.{ℕ, suc, ◌≤◌, ◌<◌}
use mathlib.Core.List.{List}
use mathlib.Core.Path.{◌≡◌}
use lib.ListN.{length, get_or}
use Rattle.arrivals.specs.Arrival.{Arrival, listed}
use Rattle.arrivals.specs.Check.{last_of, number_at}
use Rattle.arrivals.proofs.check_arrivals.Given as goal

-- the mark of each row, over the first k arrivals
abbrev pub Kept : List Arrival → ℕ → ℕ → List ℕ → Type 0
Kept xs n k last = (i : ℕ) → i < n → (get_or last i 0 ≤ 1000000) × (get_or last i 0 ≡ last_of xs (suc i) k)

abbrev pub invariant-loop-k : goal.invariant-loop-k
invariant-loop-k l =
    record {
      long : length l.last ≡ 64;
      good : (j : ℕ) → j < l.k-counter → number_at l.t.n l.t.period l.t.c1 l.t.a l.t.c2 (listed l.xs) j ≡ 0;
      kept : Kept (listed l.xs) l.t.n l.k-counter l.last;
    }
