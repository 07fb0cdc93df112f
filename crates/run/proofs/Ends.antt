-- How the ticks of a run end: in the last of them, or in the first with a release that comes too early.
use Prim.Native.Nat.{ℕ, suc, ◌+◌, ◌*◌, ◌≤◌, ◌<◌}
use mathlib.Core.Path.{◌≡◌, refl, ap, ◌∙◌}
use mathlib.Core.List.{List, ◌++◌}
use native.Mathlib.Omega.{arith}
use borrow.Author.Tests.{lt-ltb, le-ltb}
use lib.ListN.{drop}
use Rattle.lists.specs.Tab.{blank}
use Rattle.lists.proofs.First.{first_is, first_none}
use Rattle.jobs.specs.Numbers.{jobs_in}
use Rattle.arrivals.specs.declared.Arrival.{Arrival}
use Rattle.machine.specs.declared.Chart.{Chart}
use Rattle.machine.specs.Counts.{tally_of}
use Rattle.run.specs.Run.{Ran, refused, done, is_late, log, stepped_of, shown_of}
use Rattle.run.specs.State.{Stands, Falls}

-- the answer and the trace of w ticks from f on
abbrev Ends : Chart → List Arrival → ℕ → ℕ → List ℕ → Ran → List ℕ → Type 0
Ends c xs f w trace r shown = (r ≡ stepped_of c xs f w) × (shown ≡ shown_of c xs f w trace)

module _ (c : Chart) (xs : List Arrival) (f w : ℕ) (trace : List ℕ) where
  -- 19, in one of the first e ticks
  pub fell : (e late : ℕ) → e ≤ f + w → Falls c xs e late → Ends c xs f w trace (refused 19 (late + 1) 0 0) (blank (c.m * w) 0 ++ drop (c.m * w) trace)
  unfolding stepped_of shown_of
  fell e late le h =
      let b : h.tick < f + w = omega (arith, h.before) in
      let t = first_is (f + w) (is_late c xs) h.tick b h.clear h.is in
      let row : late + 1 ≡ suc late = omega arith in
      rw (t, lt-ltb h.tick (f + w) b) (ap (λ (k : ℕ). refused 19 k 0 0) (row ∙ ap suc h.row), refl)

  -- none came too early
  pub stood : (flat dues worst : List ℕ) (next : ℕ) → Stands c xs (f + w) flat dues worst next → Ends c xs f w trace (done worst (tally_of c.n (jobs_in flat))) (log c xs f w ++ drop (c.m * w) trace)
  unfolding stepped_of shown_of
  stood flat dues worst next h =
      let t = first_none (f + w) (is_late c xs) h.clear in
      rw (t, le-ltb (f + w) (f + w) (omega arith), h.noted, h.jobs) (refl, refl)
