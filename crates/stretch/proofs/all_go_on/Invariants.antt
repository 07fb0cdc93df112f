-- `stretch::all_go_on` meets its contract. The loop's invariant: the rows that the processors passed pick go on for as many ticks as are left.
use Prim.Native.Nat.{ℕ, suc, ◌≤◌, ◌<◌}
use mathlib.Core.Path.{◌≡◌}
use mathlib.Core.List.{List}
use lib.ListN.{get_or}
use Rattle.jobs.specs.Numbers.{job_in}
use Rattle.stretch.specs.Push.{Goes}
use Rattle.stretch.proofs.all_go_on.Given as goal

-- the row that a processor picks goes on for k ticks
abbrev pub RowGoes : List ℕ → List ℕ → List ℕ → List ℕ → ℕ → ℕ → Type 0
RowGoes jobs picked rank top k q = (i : ℕ) → get_or picked q 0 ≡ suc i → Goes (get_or rank i 0) (get_or top i 0) k (job_in jobs i) (job_in jobs i).place

abbrev pub invariant-loop-row : goal.invariant-loop-row
invariant-loop-row l =
    (l.ticks ≤ l.most) × (1 < l.ticks → (p : ℕ) → p < l.row-index → RowGoes l.jobs l.picked l.c.rank l.c.top l.ticks p)
