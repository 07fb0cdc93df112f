-- `sections::section_bounds` meets its contract. The loop's invariant: the first k tasks have their bounds, and stand in the lanes of their homes.
use mathlib.Core.Path.{◌≡◌}
use Rattle.bounds.proofs.Filling.{Filled}
use Rattle.sections.proofs.Found.{bounds_to, Found}
use Rattle.sections.proofs.section_bounds.Given as goal

abbrev pub invariant-loop-k : goal.invariant-loop-k
invariant-loop-k l =
    (l.bound ≡ bounds_to l.npp l.period l.section l.top l.home l.n l.k) × Filled l.period l.section l.home l.lanes l.k × Found l.npp l.period l.section l.top l.home l.n l.k
