-- `chain::release_of` meets its contract.
use Prim.Native.Nat.{◌*◌}
use mathlib.Core.Path.{◌≡◌}
use native.Mathlib.Omega.{arith}
use Rattle.std.proofs.Common.{rules}
use Rattle.std.proofs.iter.runs.Sources.{sums}
use Rattle.std.specs.List.{sum}
use lib.ListN.{take, drop}
use Rattle.chain.proofs.Offsets.{off_sum, off_small}
use Rattle.chain.proofs.release_of.Goals as goal

pub sum-requires-clause-fits : goal.sum-requires-clause-fits
sum-requires-clause-fits c =
    let a = c.args in
    let b = off_small a.row.bounds.now a.row.i a.row.good a.part in
    let s = off_sum a.row.bounds.now a.row.i a.part (omega (arith, a.row.good.whole)) in
    search (rules, sums)

pub overflow_add-result : goal.overflow_add-result
overflow_add-result c =
    let a = c.args in
    let b = off_small a.row.bounds.now a.row.i a.row.good a.part in
    let s = off_sum a.row.bounds.now a.row.i a.part (omega (arith, a.row.good.whole)) in
    let e : c.sum.result ≡ sum (take a.part (drop (3 * a.row.i) a.row.bounds.now)) = search (rules, sums) in
    omega arith

pub returns : goal.returns
returns c =
    let a = c.args in
    let b = off_small a.row.bounds.now a.row.i a.row.good a.part in
    let s = off_sum a.row.bounds.now a.row.i a.part (omega (arith, a.row.good.whole)) in
    let e : c.sum.result ≡ sum (take a.part (drop (3 * a.row.i) a.row.bounds.now)) = search (rules, sums) in
    omega arith
