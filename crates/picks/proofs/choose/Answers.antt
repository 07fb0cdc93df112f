-- `picks::choose` meets its contract.
use Prim.Native.Nat.{ℕ}
use mathlib.Core.Path.{◌≡◌, refl}
use borrow.Author.Rules.{rules}
use borrow.Author.Tests.{lt-ltb, le-ltb}
use Rattle.std.specs.Prelude.{Option, Some, None}
use Rattle.picks.specs.Offer.{Best, choice}
use Rattle.picks.proofs.choose.Goals as goal

-- the stage's row, or none
stage_row : (stage : Option Best) (held r : ℕ) → (stage ≡ None → r ≡ 0) → ((s : Best) → stage ≡ Some s → r ≡ s.row) → r ≡ choice None None stage held
unfolding choice
stage_row None held r none one = none refl
stage_row (Some s) held r none one = one s refl

pub returns-in-None-None : goal.returns-in-None-None
returns-in-None-None c =
    let o = c.args.o.now in
    let e = c.map_or.ensures in
    rw (c.in-None-None.is-0, c.in-None-None.is-1) (stage_row o.stage o.held c.map_or.result (λ n. search rules) (λ s n. search rules))

pub returns-in-None-Some : goal.returns-in-None-Some
unfolding choice
returns-in-None-Some c = rw (c.in-None-Some.is-0, c.in-None-Some.is-1)

pub returns-in-Some-None : goal.returns-in-Some-None
unfolding choice
returns-in-Some-None c = rw (c.in-Some-None.is-0, c.in-Some-None.is-1)

pub returns-then-first-o : goal.returns-then-first-o
unfolding choice
returns-then-first-o c = rw (c.in-Some-Some.is-0, c.in-Some-Some.is-1, lt-ltb c.in-Some-Some.first.key c.args.o.now.held c.if-first-o.true)

pub returns-else-first-o : goal.returns-else-first-o
unfolding choice
returns-else-first-o c = rw (c.in-Some-Some.is-0, c.in-Some-Some.is-1, le-ltb c.in-Some-Some.first.key c.args.o.now.held c.if-first-o.false)
