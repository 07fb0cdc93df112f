-- `machine::note` meets its contract.
use Prim.Native.Nat.{ℕ, ◌+◌, ◌*◌, ◌≤◌, ◌<◌, max}
use mathlib.Core.Path.{◌≡◌, refl, sym, ◌∙◌, ap}
use mathlib.Core.List.{List}
use borrow.Author.Tests.{lt-ltb, le-ltb}
use lib.ListN.{get_or, set}
use Rattle.chain.specs.declared.Place.TheVariants.{Running}
use Rattle.chain.specs.declared.Job.{Job}
use Rattle.chain.specs.Unit.{response}
use Rattle.machine.specs.Tick.{noted_at}
use Rattle.chain.proofs.Places.{rests}
use Rattle.machine.proofs.note.Goals as goal

module _ (bounds : List ℕ) (t i j l : ℕ) (x : Job) (e : x.place ≡ Running j l) (worst : List ℕ) where
  -- a part that goes on has no response yet
  goes_on : 1 < l → worst ≡ noted_at bounds t i x x.place worst
  unfolding noted_at
  goes_on h = sym (ap (λ p. noted_at bounds t i x p worst) e ∙ rw (lt-ltb 1 l h))

  -- one that ends is noted with the larger of its response and the worst before
  ends : l ≤ 1 → (r w : ℕ) → r ≡ response bounds i t x.arrived j → w ≡ max (get_or worst (3 * i + j) 0) r → set worst (3 * i + j) w ≡ noted_at bounds t i x x.place worst
  unfolding noted_at
  ends h r w f g = rw (g, f) (sym (ap (λ p. noted_at bounds t i x p worst) e ∙ rw (le-ltb 1 l h)))

pub returns-in_default : goal.returns-in_default
unfolding noted_at
returns-in_default c =
    let a = c.args in
    rests (λ p. a.worst.now ≡ noted_at a.bounds.now a.t a.i a.x p a.worst.now) refl (λ u j. refl) a.x.place c.in_default.not-Running

pub returns-then-left-gt1 : goal.returns-then-left-gt1
returns-then-left-gt1 c =
    let a = c.args in
    goes_on a.bounds.now a.t a.i c.in-Running.part c.in-Running.left a.x c.in-Running.is a.worst.now c.if-left-gt1.true

pub returns : goal.returns
returns c =
    let a = c.args in
    ends a.bounds.now a.t a.i c.in-Running.part c.in-Running.left a.x c.in-Running.is a.worst.now c.if-left-gt1.false c.response-response.result c.max.result c.response-response.ensures c.max.ensures
