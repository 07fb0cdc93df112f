-- `jobs::place_in` meets its contract.
use native.Mathlib.Omega.{arith}
use borrow.Author.Tests.{lt-ltb, le-ltb, eq-eqb, ne_eqb}
use Rattle.jobs.specs.Numbers.{place_in}
use Rattle.jobs.proofs.place_in.Goals as goal

pub returns-in-0 : goal.returns-in-0
unfolding place_in
returns-in-0 c = rw (eq-eqb c.args.code 0 c.in-0.is)

pub returns-in-1-to-3 : goal.returns-in-1-to-3
unfolding place_in
returns-in-1-to-3 c = rw (ne_eqb c.args.code 0 (λ e. omega (arith, c.in-1-to-3)), lt-ltb c.args.code 4 (omega (arith, c.in-1-to-3)))

pub returns-in-4-to-4294967295 : goal.returns-in-4-to-4294967295
unfolding place_in
returns-in-4-to-4294967295 c = rw (ne_eqb c.args.code 0 (λ e. omega (arith, c.in-4-to-4294967295)), le-ltb c.args.code 4 (omega (arith, c.in-4-to-4294967295)))
