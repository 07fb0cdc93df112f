-- `run::put_lanes` meets its contract: the lane is written k times, one behind the other.
use Prim.Native.Nat.{ℕ, zero, suc, ◌+◌, ◌*◌, ◌≤◌}
use mathlib.Core.List.{List, []}
use Rattle.std.proofs.lemmas.List.{nil_from_length}
use mathlib.Core.Path.{◌≡◌, refl}
use native.Mathlib.Omega.{arith}
use lib.ListN.{length}
use Rattle.lists.specs.Tab.{joined}
use Rattle.lists.proofs.Sets.{stored_length}
use Rattle.lists.proofs.Joined.{joined_next}
use Rattle.run.proofs.Front.{more_ticks}
use Rattle.run.proofs.put_lanes.Goals as goal

-- without a byte in the lane nothing is written
joined_none : (n : ℕ) (xs : List ℕ) → length xs ≡ 0 → joined n (λ k. xs) ≡ []
unfolding joined
joined_none zero xs h = refl
joined_none (suc n) xs h = rw (joined_none n xs h) (nil_from_length xs h)

pub returns-then-m-eq0 : goal.returns-then-m-eq0
returns-then-m-eq0 c = rw (joined_none c.args.ticks c.args.lane.now c.if-m-eq0.true) refl

pub loop-k-init : goal.loop-k-init
unfolding joined
loop-k-init c = refl

-- the trace has room for one tick more
room : (m at k ticks size : ℕ) → k + 1 ≤ ticks → at + m * ticks ≤ size → at + m * k + m ≤ size
room m at k ticks size h l = omega (arith, more_ticks m k 1 ticks h)

pub overflow_mul-m : goal.overflow_mul-m
overflow_mul-m c =
    omega (arith, room (length c.args.lane.now) c.args.at c.loop-k.k c.args.ticks (length c.args.trace.now) (omega arith) c.requires)

pub overflow_add-at : goal.overflow_add-at
overflow_add-at c =
    omega (arith, room (length c.args.lane.now) c.args.at c.loop-k.k c.args.ticks (length c.args.trace.now) (omega arith) c.requires)

pub store-requires : goal.store-requires
store-requires c =
    let l = c.loop-k in
    omega (arith, room (length c.args.lane.now) c.args.at l.k c.args.ticks (length c.args.trace.now) (omega arith) c.requires, stored_length c.args.trace.now c.args.at (joined l.k (λ i. c.args.lane.now)) l.invariant)

pub loop-k-preserved : goal.loop-k-preserved
loop-k-preserved c =
    let a = c.args in
    let l = c.loop-k in
    joined_next (length a.lane.now) (λ i. a.lane.now) (λ i. refl) a.trace.now a.at l.k l.invariant c.store.ensures

pub returns : goal.returns
returns c =
    let q : c.loop-k.k ≡ c.args.ticks = omega arith in
    rw q at c.loop-k.invariant
