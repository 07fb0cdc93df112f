-- `listing::put_plan` meets its contract. Its three parts are written one behind the other.
use mathlib.Core.List.{◌++◌}
use native.Mathlib.Omega.{arith}
use Rattle.lists.specs.Tab.{joined}
use Rattle.listing.specs.Listing.{plan_line, resource_lines, task_line, plan_text}
use Rattle.listing.proofs.Text.{then}
use Rattle.listing.proofs.put_plan.Goals as goal

pub returns : goal.returns
unfolding plan_text
returns c =
    let x = c.put_plan_line-resources.ensures in
    let y = c.put_resources-tasks.ensures in
    let z = c.put_tasks.ensures in
    let a = c.args in
    let p = a.p.now in
    let head = plan_line a.n a.m p.s in
    let rs = resource_lines p.serves 16 in
    let ts = joined a.n (task_line p.processor p.d1 p.section p.d2) in
    (then (head ++ rs) ts (then head rs x.0 y.0) z.0, omega (arith, x.1, y.1, z.1))
