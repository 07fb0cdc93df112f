-- `sheet::write_plan` meets its contract: header, resources and tasks stand one behind the other.
use mathlib.Core.List.{◌++◌}
use Rattle.lists.specs.Tab.{joined}
use Rattle.sheet.specs.Sheet.{header_bytes, resource_bytes, task_of, plan_bytes}
use Rattle.lists.proofs.Sets.{sets_then}
use Rattle.sheet.proofs.Words.{length_header, length-resources}
use Rattle.sheet.proofs.write_plan.Goals as goal

pub returns : goal.returns
unfolding plan_bytes
returns c =
    let a = c.args in
    let p = a.p.now in
    let header = header_bytes a.n a.m p.s in
    let resources = resource_bytes p.serves in
    let tasks = joined a.n (task_of p.processor p.d1 p.section p.d2) in
    sets_then a.part.now 0 2 header (resources ++ tasks) (length_header a.n a.m p.s) c.put_header.ensures
    (sets_then c.put_header.new.part 2 10 resources tasks (length-resources p.serves) c.put_resources.ensures c.put_tasks.ensures)
