-- `sections::section_bounds` meets its contract. The loop's invariant: the first k tasks have their bounds, and stand in the lanes of their homes.
use Prim.Native.Nat.{◌<◌}
use mathlib.Core.Path.{◌≡◌, refl, sym, ◌∙◌, ap}
use native.Mathlib.Omega.{arith}
use lib.ListN.{get_or}
use Rattle.lists.proofs.Tab.{filled_none}
use Rattle.sections.specs.Section.{section_bound}
use Rattle.bounds.specs.Bound.{time_of, is_missing}
use Rattle.bounds.proofs.Filling.{lanes_none, lanes_more, lanes_good}
use Rattle.sections.proofs.Blocks.{blocking-le}
use Rattle.sections.proofs.Found.{bound_found, bounds_more, found_more, sections_missing, sections_all}
use Rattle.sections.proofs.section_bounds.Goals as goal

pub loop-k-init : goal.loop-k-init
loop-k-init c =
    let a = c.args in (
      c.blank-bound.ensures ∙ sym (filled_none 64 0 (λ j. time_of (section_bound a.npp a.period.now a.section.now a.top.now a.home.now a.n j))),
      lanes_none a.period.now a.section.now a.home.now c.new-lanes.result c.new-lanes.ensures.0 c.new-lanes.ensures.1,
      λ j l. absurd (omega arith),
    )

pub bound_on-requires : goal.bound_on-requires
bound_on-requires c =
    let a = c.args in
    let l = c.loop-k in
    let g = c.requires in
    let h = g.served l.k (omega arith) in
    let t = g.terms l.k (omega arith) in
    let p = get_or a.home.now l.k 0 in
    let few = l.invariant.1.few p (omega arith) in
    let b = blocking-le a.npp a.section.now a.top.now a.home.now l.k a.n 1000000 (λ i s. omega (arith, (g.terms i s).short, (g.terms i s).period.1)) in
    (omega arith, omega arith, omega (arith, t.short, t.period.1), omega (arith, c.blocking-b.ensures), t.period.1, lanes_good a.period.now a.section.now l.invariant.1 (λ i s. g.terms i (omega arith)) p (omega arith))

pub returns-in-Err : goal.returns-in-Err
returns-in-Err c =
    let a = c.args in
    let l = c.loop-k in
    let h = c.requires.served l.k (omega arith) in
    let f = bound_found a.npp a.period.now a.section.now a.top.now a.home.now a.n l.k c.bound_on.result (omega arith) l.invariant.1 (rw c.blocking-b.ensures at c.bound_on.ensures) in
    sections_missing a.npp a.period.now a.section.now a.top.now a.home.now a.n l.k c.in-Err.broke.value l.bound (omega arith) l.invariant.2 (sym f ∙ c.in-Err.is) l.invariant.0

pub loop-k-preserved : goal.loop-k-preserved
loop-k-preserved c =
    let a = c.args in
    let l = c.loop-k in
    let h = c.requires.served l.k (omega arith) in
    let s : l.k < 64 = omega (arith, c.requires.few) in
    let p = get_or a.home.now l.k 0 in
    let f = bound_found a.npp a.period.now a.section.now a.top.now a.home.now a.n l.k c.bound_on.result (omega arith) l.invariant.1 (rw c.blocking-b.ensures at c.bound_on.ensures) in
    let t = sym f ∙ c.in-Ok.is in (
      bounds_more a.npp a.period.now a.section.now a.top.now a.home.now a.n l.k c.in-Ok.t l.bound s l.invariant.0 (ap time_of t),
      lanes_more a.period.now a.section.now l.k p s (omega arith) refl l.invariant.1 c.add.ensures.0 c.add.ensures.1,
      found_more a.npp a.period.now a.section.now a.top.now a.home.now a.n l.k l.invariant.2 (ap is_missing t),
    )

pub returns : goal.returns
returns c =
    let a = c.args in
    let l = c.loop-k in
    let q : l.k ≡ a.n = omega arith in
    sections_all a.npp a.period.now a.section.now a.top.now a.home.now a.n l.bound (rw q at l.invariant.2) (rw q at l.invariant.0)
