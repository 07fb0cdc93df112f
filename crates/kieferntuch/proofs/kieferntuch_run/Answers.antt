-- `kieferntuch::kieferntuch_run` meets its contract: a run does with the numbers of a list that was taken apart what it does with the list.
use Rattle.lists.proofs.Tab.{length-blank}
use Rattle.table.specs.Table.{reading_of}
use Rattle.run.proofs.Many.{from_flat}
use Rattle.kieferntuch.proofs.kieferntuch_run.Goals as goal

pub returns : goal.returns
returns c =
    let a = c.args in
    from_flat (reading_of a.table.now) a.arrivals.now a.from a.ticks a.trace.now c.run_flat.result c.run_flat.new.trace c.blank-numbers.result c.taken_apart.new.flat (rw c.blank-numbers.ensures (length-blank 20480 0)) c.taken_apart.ensures c.run_flat.ensures
