-- `plan::tasks_of` meets its contract. Each column is what its call promises; together they are the tasks.
use Rattle.spread.proofs.Weight.{weights-le}
use Rattle.plan.proofs.Ordered.{good_rows, small_works, small_resources, tasks_made}
use Rattle.plan.proofs.tasks_of.Goals as goal

pub works-requires : goal.works-requires
works-requires c =
    rw (c.in_rank-c1.ensures, c.in_rank-c2.ensures) (c.requires.rows.1, small_works c.args.t.now c.requires)

pub of_resource-requires : goal.of_resource-requires
of_resource-requires c =
    rw c.in_rank-resource.ensures (c.requires.rows.1, small_resources c.args.t.now c.requires)

pub heaviest-requires : goal.heaviest-requires
heaviest-requires c =
    let t = c.args.t.now in
    rw c.weights-weight.ensures (weights-le t.period t.a t.resource t.n c.requires.rows.1 (good_rows t c.requires))

pub returns : goal.returns
returns c =
    let period = c.in_rank in
    let c1 = c.in_rank-c1 in
    let a = c.in_rank-2 in
    let c2 = c.in_rank-c2 in
    let work = c.works in
    let resource = c.in_rank-resource in
    let top = c.of_resource in
    let number = c.numbers_to-number in
    let row = c.in_rank-3 in
    let weight = c.weights-weight in
    let heaviest = c.heaviest in
    let used = c.used in
    tasks_made c.args.t.now period.result c1.result a.result c2.result work.result resource.result top.result number.result row.result weight.result heaviest.result used.result
    period.ensures c1.ensures a.ensures c2.ensures work.ensures resource.ensures top.ensures number.ensures row.ensures weight.ensures heaviest.ensures used.ensures.0
