-- `spread::used` meets its contract: the chain counts those of the weights that are above 0.
use mathlib.Core.Path.{◌≡◌, ◌∙◌}
use native.Mathlib.Omega.{arith}
use borrow.Author.Rules.{rules}
use lib.ListN.{take, drop}
use lib.Dec.{ltb}
use Rattle.std.specs.List.{count_by}
use Rattle.spread.proofs.Weight.{used_is, used_le}
use Rattle.spread.proofs.used.Goals as goal

pub returns : goal.returns
returns c =
    let w = c.args.weight.now in
    let e : c.count.result ≡ count_by (ltb 0) (take 16 (drop 1 w)) = search rules in
    let f = e ∙ used_is w c.told-weight in
    (f, omega (arith, f, used_le w))
