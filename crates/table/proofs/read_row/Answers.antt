-- `table::read_row` meets its contract. Of each word the fields are the first bits and the last ones, and so those of the definition.
use Rattle.bits.proofs.Laws.{bits_first, bits_last}
use Rattle.table.specs.Row.{row_of}
use Rattle.table.proofs.read_row.Goals as goal

pub returns : goal.returns
unfolding row_of
returns c =
    let w = c.args.part.now in
    let period = bits_first w 0 20 20 in
    let c1 = bits_last w 0 20 20 in
    let a = bits_first w 40 20 20 in
    let c2 = bits_last w 40 20 20 in
    let resource = bits_first w 80 5 3 in
    let spare = bits_last w 80 5 3 in
    cc
