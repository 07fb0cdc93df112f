-- `bounds::bound_of` meets its contract. A length of 0 has bound 0; any other is searched for.
use borrow.Author.Tests.{ne_eqb}
use Rattle.bounds.specs.Bound.{bound_of}
use Rattle.bounds.proofs.bound_of.Goals as goal

pub returns-then-own-eq0 : goal.returns-then-own-eq0
unfolding bound_of
returns-then-own-eq0 c = rw c.if-own-eq0.true

pub returns : goal.returns
unfolding bound_of
returns c =
    let h = c.least.ensures in
    rw (ne_eqb _ 0 c.if-own-eq0.false) h
