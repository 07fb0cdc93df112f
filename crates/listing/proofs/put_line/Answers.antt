-- `listing::put_line` meets its contract. Word, numbers and line end are written one behind the other.
use mathlib.Core.List.{[], ◌∷◌, ◌++◌, append_assoc}
use native.Mathlib.Omega.{arith}
use Rattle.listing.specs.Text.{spaced, line}
use Rattle.listing.proofs.Text.{then}
use Rattle.listing.proofs.put_line.Goals as goal

pub returns : goal.returns
unfolding line
returns c =
    let z = c.put_byte.ensures in
    let y = c.put_numbers-end.ensures in
    let x = c.put_bytes-behind.ensures in
    let a = c.args in
    let w = a.word.now in
    let ns = a.numbers.now in
    (rw append_assoc at (then (w ++ spaced ns) (10 ∷ []) (then w (spaced ns) x y.0) z), omega (arith, x.ends, z.ends))
