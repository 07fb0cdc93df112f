-- `arrivals::taken_apart` meets its contract: each turn stores the five numbers of one record.
use mathlib.Core.Path.{◌≡◌, ◌∙◌, ap}
use Prim.Native.Nat.{ℕ, ◌*◌}
use mathlib.Core.List.{List}
use native.Mathlib.Numerals.{add-one}
use Rattle.std.proofs.lemmas.List.Edits.{sets}
use Rattle.arrivals.specs.Arrival.{arrival_at, five}
use Rattle.arrivals.proofs.Apart.{flat_none, flat_more}
use Rattle.arrivals.proofs.taken_apart.Goals as goal

pub loop-k-init : goal.loop-k-init
loop-k-init c = flat_none c.args.list.now c.args.flat.now

pub loop-k-preserved : goal.loop-k-preserved
loop-k-preserved c =
    let a = c.args in
    let k = c.loop-k.k in
    let f : c.put.new.flat ≡ sets c.loop-k.flat (5 * k) (five (arrival_at a.list.now k)) = c.put.ensures in
    f ∙ ap (λ (u : List ℕ). sets u (5 * k) (five (arrival_at a.list.now k))) c.loop-k.invariant ∙ rw add-one (flat_more a.list.now a.flat.now k)
