-- `jobs::put_job` meets its contract.
use Prim.Native.Nat.{◌*◌}
use native.Mathlib.Nat.{add-suc}
use native.Mathlib.Numerals.{add-one}
use Rattle.jobs.specs.Numbers.{numbers_of}
use Rattle.jobs.proofs.put_job.Goals as goal

pub returns : goal.returns
unfolding numbers_of
returns c =
    let at = add-suc (9 * c.args.i) in
    let n = c.numbers-code.ensures in
    rw (n.0, n.1, at 7, at 6, at 5, at 4, at 3, at 2, at 1, add-one)
