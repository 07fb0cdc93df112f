-- `bounds::Term::share` meets its contract. Within one period the quotient is 1; above it the product is below t and one period more.
use mathlib.Core.Path.{refl, sym}
use native.Mathlib.Omega.{arith}
use Rattle.bounds.specs.Demand.{ceil}
use Rattle.bounds.proofs.Asked.{share_le, once}
use Rattle.bounds.proofs.Term.share.Goals as goal

pub returns-then-t-self : goal.returns-then-t-self
returns-then-t-self c =
    let x = c.args.self.now in
    (sym (once c.args.t x.period x.len c.requires.0 c.if-t-self.true), omega arith)

pub overflow_mul-result : goal.overflow_mul-result
unfolding ceil
overflow_mul-result c = omega (arith, share_le c.args.t c.args.self.now.period c.args.self.now.len c.requires.2.short)

pub returns : goal.returns
unfolding ceil
returns c = (refl, omega (arith, share_le c.args.t c.args.self.now.period c.args.self.now.len c.requires.2.short))
