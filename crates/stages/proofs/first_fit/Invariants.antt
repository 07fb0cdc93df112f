-- `stages::first_fit` meets its contract. The loop's invariant: no processor before p has a fit, and the value is the smallest of theirs.
use Prim.Native.Nat.{ℕ}
use mathlib.Core.Path.{◌≡◌}
use lib.ListN.{get_or}
use Rattle.bounds.specs.Terms.{lane}
use Rattle.bounds.specs.declared.Lanes.{Lanes}
use Rattle.stages.specs.Fit.{Fit, fit_among}
use Rattle.stages.proofs.Fitting.{NoFit, least_to}
use Rattle.stages.proofs.first_fit.Given as goal

-- how a task of these numbers fits a processor, beside the terms in its lane
abbrev pub fits : Lanes → ℕ → ℕ → ℕ → ℕ → ℕ → Fit
fits lanes c1 c2 section period p = fit_among (lane lanes.terms p (get_or lanes.count p 0)) c1 c2 section period

abbrev pub invariant-loop-p : goal.invariant-loop-p
invariant-loop-p l =
    NoFit (fits l.lanes l.need.c1 l.need.c2 l.need.section l.need.period) l.s l.m l.p
    × (l.least ≡ least_to (fits l.lanes l.need.c1 l.need.c2 l.need.section l.need.period) l.s l.m l.p)
