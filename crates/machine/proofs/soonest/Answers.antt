-- `machine::soonest` meets its contract.
use Prim.Native.Nat.{ℕ, zero, suc, min, ◌≤◌}
use mathlib.Core.Path.{◌≡◌, refl, ◌∙◌}
use mathlib.Core.List.{List}
use native.Mathlib.Omega.{arith}
use native.Mathlib.Nat.{min_comm}
use borrow.Author.Rules.{rules}
use lib.ListN.{length, get_or, take}
use lib.Seq.{take-suc}
use Rattle.std.specs.List.{fold}
use Rattle.std.proofs.lemmas.List.Sums.{fold_push}
use Rattle.machine.specs.Good.{soonest_of}
use Rattle.machine.proofs.soonest.Goals as goal

-- the least of the first n, and of no tick and these
least_is : (n : ℕ) (dues : List ℕ) → n ≤ length dues → fold min 4294967295 (take n dues) ≡ soonest_of n dues
unfolding soonest_of
least_is zero dues h = refl
least_is (suc n) dues h =
    rw (take-suc dues n 0 (omega arith), fold_push min 4294967295 (take n dues) (get_or dues n 0), least_is n dues (omega arith)) (min_comm (soonest_of n dues) (get_or dues n 0))

pub returns : goal.returns
returns c =
    let e : c.fold.result ≡ fold min 4294967295 (take c.args.n c.args.due.now) = search rules in
    e ∙ least_is c.args.n c.args.due.now (omega arith)
