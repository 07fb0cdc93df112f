-- `listing::put_numbers` meets its contract. The loop's invariant: the numbers ahead of x are written, in at most 11 bytes each.
use mathlib.Core.List.{[], ◌∷◌, ◌++◌}
use mathlib.Core.Path.{◌≡◌}
use native.Mathlib.Omega.{arith}
use lib.ListN.{length, take, get_or}
use lib.Seq.{take-length}
use Rattle.listing.specs.Text.{decimal, spaced}
use Rattle.listing.proofs.Text.{spaced-take, then, wrote_nothing}
use Rattle.listing.proofs.put_numbers.Goals as goal

pub loop-x-init : goal.loop-x-init
unfolding spaced
loop-x-init c =
    let a = c.args in
    (wrote_nothing a.out.now a.at, omega arith)

pub loop-x-preserved : goal.loop-x-preserved
loop-x-preserved c =
    let l = c.loop-x in
    let i = l.x-index in
    let xs = c.args.numbers.now in
    let u = spaced (take i xs) in
    let w = then (u ++ (32 ∷ [])) (decimal (get_or xs i 0)) (then u (32 ∷ []) l.invariant.0 c.put_byte-end.ensures) c.put_number-end.ensures.0 in
    (rw (spaced-take xs i (omega arith)) w, omega (arith, c.put_byte-end.ensures.ends))

pub returns : goal.returns
returns c =
    let l = c.loop-x in
    let xs = c.args.numbers.now in
    let q : l.x-index ≡ length xs = omega arith in
    let e : take l.x-index xs ≡ xs = rw q (take-length xs) in
    (rw e at l.invariant.0, omega arith)
