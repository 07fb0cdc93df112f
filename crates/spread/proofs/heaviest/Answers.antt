-- `spread::heaviest` meets its contract: the definition, call by call.
use Rattle.spread.specs.Weight.{heaviest_of}
use Rattle.spread.proofs.heaviest.Goals as goal

pub returns : goal.returns
unfolding heaviest_of
returns c =
    rw (c.in_rank.ensures, c.numbers_to-number.ensures, c.ranks-place.ensures, c.lacks-lack.ensures)
