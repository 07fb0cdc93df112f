-- `listing::spell` meets its contract. The loop's invariant: the digits of `rest` in front of those that are stored are the digits of x, and `rest` has at most as many digits as there is room.
use Prim.Native.Nat.{◌-◌, ◌≤◌}
use mathlib.Core.List.{[]}
use mathlib.Core.Path.{◌≡◌, sym, ◌∙◌, ap}
use native.Mathlib.Omega.{arith}
use lib.ListN.{length, drop, set, length-set, length-drop, drop_of_length-le}
use Rattle.lists.proofs.Sets.{take_rest}
use Rattle.listing.proofs.Text.{in_front, spelled_more, spelled_last, shorter}
use Rattle.listing.specs.Text.{decimal}
use Rattle.listing.proofs.spell.Goals as goal

pub loop-rest-init : goal.loop-rest-init
unfolding decimal
loop-rest-init c =
    let n : length c.args.places.now ≤ 10 = omega arith in
    let e : drop 10 c.args.places.now ≡ [] = drop_of_length-le c.args.places.now n in
    (omega arith, omega arith, omega arith, omega arith, rw e)

pub loop-rest-preserved : goal.loop-rest-preserved
loop-rest-preserved c =
    let l = c.loop-rest in
    let h = shorter l.from l.rest l.invariant.3 (omega arith) in
    let d = in_front l.places l.from c.digit.result l.invariant.0 (omega arith) in
    (omega arith, omega arith, length-set l.places (l.from - 1) c.digit.result ∙ l.invariant.2, h.1, rw (d, c.digit.ensures) (l.invariant.4 ∙ spelled_more l.rest (drop l.from l.places) (omega arith)))

pub returns : goal.returns
returns c =
    let l = c.loop-rest in
    let s = set l.places (l.from - 1) c.digit-2.result in
    let n : length s ≡ 10 = length-set l.places (l.from - 1) c.digit-2.result ∙ l.invariant.2 in
    let d = in_front l.places l.from c.digit-2.result l.invariant.0 (omega arith) in
    let e : drop (l.from - 1) s ≡ decimal c.args.x = rw (d, c.digit-2.ensures) (sym (l.invariant.4 ∙ spelled_last l.rest (drop l.from l.places) (omega arith))) in
    let t = take_rest s (l.from - 1) 10 n in
    (t ∙ e, omega (arith, ap length t, length-drop (l.from - 1) s))
