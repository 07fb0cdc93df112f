-- `machine::chart_of` meets its contract.
use Prim.Native.Nat.{ℕ}
use mathlib.Core.Path.{◌≡◌, ◌∙◌}
use mathlib.Core.Bool.{true, false}
use mathlib.Core.List.{List}
use Rattle.lists.specs.Tab.{blank}
use Rattle.table.specs.declared.Table.{Table}
use Rattle.plan.specs.declared.Plan.{Plan}
use Rattle.plan.specs.Tasks.{of_resource}
use Rattle.machine.specs.Chart.{chart, threes, locks_of, tops_of, chart_of}
use Rattle.machine.proofs.chart_of.Goals as goal

-- the columns together
made : (t : Table) (p : Plan) (locks top bounds homes : List ℕ) → locks ≡ locks_of t p → top ≡ tops_of t → bounds ≡ threes p.d1 p.section p.d2 t.n → homes ≡ threes p.processor locks p.processor t.n → chart t.n t.m bounds homes t.rank top ≡ chart_of t p
unfolding chart_of
made t p locks top bounds homes e f g h = rw (h, g, f, e)

-- the ceilings under NPP, and under PCP
none : (t : Table) (top : List ℕ) → top ≡ blank 64 0 → t.npp ≡ true → top ≡ tops_of t
unfolding tops_of
none t top e h = e ∙ rw h

ceilings : (t : Table) (top : List ℕ) → top ≡ of_resource t.ceiling t.resource t.n → t.npp ≡ false → top ≡ tops_of t
unfolding tops_of
ceilings t top e h = e ∙ rw h

pub returns-then-t : goal.returns-then-t
returns-then-t c =
    let a = c.args in
    made a.t.now a.p.now c.of_resource-locks.result _ c.interleaved.result c.interleaved-2.result c.of_resource-locks.ensures (none a.t.now _ c.blank.ensures c.if-t.true) c.interleaved.ensures c.interleaved-2.ensures

pub returns-else-t : goal.returns-else-t
returns-else-t c =
    let a = c.args in
    made a.t.now a.p.now c.of_resource-locks.result _ c.interleaved.result c.interleaved-2.result c.of_resource-locks.ensures (ceilings a.t.now _ c.of_resource-tops.ensures c.if-t.false) c.interleaved.ensures c.interleaved-2.ensures
