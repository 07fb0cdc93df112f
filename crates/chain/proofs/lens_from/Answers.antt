-- `chain::lens_from` meets its contract.
use Prim.Native.Nat.{◌-◌}
use mathlib.Core.Path.{◌≡◌}
use native.Mathlib.Omega.{arith}
use Rattle.std.proofs.Common.{rules, Fits, w32}
use Rattle.std.proofs.iter.runs.Sources.{sums}
use Rattle.std.specs.List.{sum}
use Rattle.std.proofs.lemmas.List.{take_all, length-drop}
use lib.ListN.{get_or, length, take, drop}
use Rattle.chain.proofs.Counts.{lens_small, lens_sum}
use Rattle.chain.proofs.lens_from.Goals as goal

pub returns : goal.returns
returns c =
    let ls = c.args.lens in
    let j = c.args.from in
    let e : c.sum.result ≡ sum (take (3 - j) (drop j ls)) = search (rules, sums) in
    let l : length ls ≡ 3 = search rules in
    let d = length-drop j ls in
    let w = rw (take_all (3 - j) (drop j ls) (omega arith)) at e in
    let b = lens_small (3 - j) j ls (omega arith) (λ k. let f : Fits w32 (get_or ls k 0) = search rules in f.fits) in
    omega (arith, lens_sum j ls)
