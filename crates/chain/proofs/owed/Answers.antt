-- `chain::owed` meets its contract.
use Prim.Native.Nat.{suc, ◌+◌}
use mathlib.Core.Path.{◌≡◌, sym, ap}
use native.Mathlib.Omega.{arith}
use native.Mathlib.Numerals.{add-one}
use Rattle.std.proofs.Common.{rules, Fits, w32}
use Rattle.chain.specs.Owed.{lens_from, owes}
use Rattle.chain.proofs.owed.Goals as goal

pub returns-in-Idle : goal.returns-in-Idle
unfolding owes
returns-in-Idle c = (sym (ap (owes c.args.x.lens) c.in-Idle.is), omega arith)

pub returns-in-Waiting : goal.returns-in-Waiting
unfolding owes
returns-in-Waiting c = omega (arith, ap (owes c.args.x.lens) c.in-Waiting.is)

pub returns-in-Running : goal.returns-in-Running
unfolding owes
returns-in-Running c =
    let ls = c.args.x.lens in
    let n : lens_from (c.in-Running.part + 1) ls ≡ lens_from (suc c.in-Running.part) ls = rw add-one in
    let f : Fits w32 c.in-Running.left = search rules in
    omega (arith, ap (owes ls) c.in-Running.is, c.from.ensures, f.fits)
