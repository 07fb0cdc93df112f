-- `arrivals::Flat::new` meets its contract.
use mathlib.Core.Path.{refl, sym}
use borrow.Author.Tests.{lt-leb, le-leb}
use Rattle.arrivals.proofs.Numbers.{flat_many, flat_few}
use Rattle.arrivals.proofs.flat.Flat.new.Goals as goal

pub returns-then-count-gt4096 : goal.returns-then-count-gt4096
returns-then-count-gt4096 c = let l = c.if-count-gt4096.true in (sym (lt-leb _ _ l), tt, flat_many _ _ l)

pub returns : goal.returns
returns c = let l = c.if-count-gt4096.false in (sym (le-leb _ _ l), (refl, refl), flat_few _ _ _)
