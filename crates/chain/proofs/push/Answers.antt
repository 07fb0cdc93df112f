-- `chain::push` meets its contract.
use Prim.Native.Nat.{ℕ, zero, suc, ◌+◌, ◌-◌}
use mathlib.Core.Path.{◌≡◌, refl, sym, ap}
use Rattle.chain.specs.Job.{Place, Idle, Waiting, Running, Job}
use Rattle.chain.specs.Unit.{mark, pushed, push_at, push}
use Rattle.chain.proofs.Places.{rests}
use Rattle.chain.proofs.push.Goals as goal

-- no unit leaves the job as it is,
none_run : (t : ℕ) (x : Job) (p : Place) → push_at t 0 x p ≡ x
unfolding push_at pushed
none_run t x Idle = refl
none_run t x (Waiting u j) = refl
none_run t x (Running j l) = refl

-- and some are taken off what is left
some_run : (t k : ℕ) (x : Job) (j l b : ℕ) → (k ≡ 0 → ⊥) → x.place ≡ Running j l → b ≡ mark t x.begun
    → record { place = Running j (l - k); arrived = x.arrived; lens = x.lens; begun = b; ended = x.ended; ran = x.ran + k } ≡ push t k x
unfolding push_at pushed
some_run t zero x j l b h e f = absurd (h refl)
some_run t (suc k) x j l b h e f = rw f (sym (ap (push_at t (suc k) x) e))

pub returns-then-k-eq0 : goal.returns-then-k-eq0
returns-then-k-eq0 c = let a = c.args in rw c.if-k-eq0.true (sym (none_run a.t a.x a.x.place))

pub returns-in_default : goal.returns-in_default
unfolding push_at
returns-in_default c =
    let a = c.args in
    rests (λ p. a.x ≡ push_at a.t a.k a.x p) refl (λ u j. refl) a.x.place c.in_default.not-Running

pub returns : goal.returns
returns c =
    let a = c.args in
    some_run a.t a.k a.x c.in-Running.part c.in-Running.left c.mark-begun.result c.if-k-eq0.false c.in-Running.is c.mark-begun.ensures
