-- `run::play` meets its contract: the machine stands as after ticks 0 to from + k - 1, and a trace of a lane for each processor begins
-- with the bytes of the last k of them; or a release came too early in tick from + k.
use Prim.Native.Nat.{ℕ, ◌+◌, ◌*◌, ◌≤◌}
use mathlib.Core.Path.{◌≡◌, refl, sym, ap, ◌∙◌}
use mathlib.Core.List.{List}
use native.Mathlib.Omega.{arith}
use native.Mathlib.Nat.{add-zero, add_assoc, mul-le-mul_left}
use borrow.Author.Rules.{rules}
use lib.ListN.{length, drop}
use lib.Seq.{sets}
use Rattle.lists.specs.Tab.{joined}
use Rattle.arrivals.specs.Arrival.{listed}
use Rattle.std.specs.Prelude.{Result, Ok, Err, IfErr, ⊤, ◌<◌}
use Rattle.arrivals.specs.Arrival.{brings}
use Rattle.jobs.specs.Numbers.{jobs_in}
use Rattle.machine.specs.declared.TooEarly.{TooEarly}
use Rattle.machine.specs.Tick.{late_row}
use Rattle.run.specs.Run.{log}
use Rattle.run.proofs.Front.{front_is, front_rest, more_ticks}
use Rattle.run.proofs.Window.{length-log}
use Rattle.run.proofs.Steps.{holds, went_off, led_on, led_shown, shown_more}
use Rattle.run.proofs.play.Goals as goal

pub loop-k-init : goal.loop-k-init
unfolding log joined
loop-k-init c = (omega arith, search rules, rw (add-zero c.args.from) c.requires.4, λ w. refl)

pub stretch-requires : goal.stretch-requires
stretch-requires c =
    let p = c.requires in
    let i = c.loop-k.invariant in
    (omega (arith, c.loop-k-test.true), p.0, p.1, holds i.2 p.1 (omega arith), i.2.coming, omega (arith, i.1, p.2))

-- the trace has room for r ticks more
room : (m w k r e size had : ℕ) → w ≡ m → k + r ≤ e → m * e ≤ size → had ≡ size → w * k + w * r ≤ had
room m w k r e size had q h l same = rw (q, same) (omega (arith, more_ticks m k r e h))

-- the bytes of as many ticks as are there leave the rest of the trace as it was
rest_same : (tr l u : List ℕ) (m k e : ℕ) → tr ≡ sets l 0 u → length u ≡ m * k → k ≤ e → m * e ≤ length l → drop (m * e) tr ≡ drop (m * e) l
rest_same tr l u m k e q n h room = ap (drop (m * e)) q ∙ front_rest l u (m * e) (omega (arith, n, mul-le-mul_left m h)) room

pub returns-in_err-more-clause-rest : goal.returns-in_err-more-clause-rest
returns-in_err-more-clause-rest c w =
    let a = c.args in
    let l = c.loop-k in
    rest_same l.trace a.trace.now _ a.c.now.m l.k a.ticks (l.invariant.3 w) (length-log a.c.now (listed a.xs.now) a.from l.k) l.invariant.0 (rw w at c.requires.3)

-- what an error says, another says of it
if_err : (r : Result ⊤ TooEarly) {P Q : TooEarly → Type 0} → ((e : TooEarly) → P e → Q e) → IfErr r P → IfErr r Q
if_err (Ok x) f h = tt
if_err (Err e) f h = f e h

pub returns-in_err-more-clause-err : goal.returns-in_err-more-clause-err
returns-in_err-more-clause-err c =
    let a = c.args in
    let l = c.loop-k in
    if_err c.from_residual.result {P = λ w. (w.row ≡ late_row a.c.now.n a.c.now.bounds (brings (listed a.xs.now)) (a.from + l.k) (jobs_in l.s.jobs)) × (w.row < a.c.now.n)} (λ e p. went_off l.invariant.2 _ e.row (omega (arith, c.loop-k-test.true)) p) (search rules)

pub put_lanes-requires : goal.put_lanes-requires
put_lanes-requires c =
    let a = c.args in
    let l = c.loop-k in
    let o = c.stretch in
    room a.shown _ l.k _ a.ticks (length a.trace.now) _ (o.auto.lane ∙ l.invariant.1) (omega (arith, c.in_ok-more.ensures.ok.3)) c.requires.3 l.auto.trace

pub overflow_add-k : goal.overflow_add-k
overflow_add-k c = omega (arith, c.in_ok-more.ensures.ok.3, c.requires.0)

pub loop-k-smaller : goal.loop-k-smaller
loop-k-smaller c = omega (arith, c.in_ok-more.ensures.ok.2, c.in_ok-more.ensures.ok.3)

pub loop-k-preserved : goal.loop-k-preserved
loop-k-preserved c =
    let a = c.args in
    let l = c.loop-k in
    let i = l.invariant in
    let o = c.stretch in
    let more = c.in_ok-more.more in
    let led = c.in_ok-more.ensures.ok in
    let long : length o.new.lane ≡ a.shown = o.auto.lane ∙ i.1 in (
      omega (arith, led.3),
      long,
      rw (sym (add_assoc a.from l.k more)) (led_on i.2 _ _ _ _ _ _ _ led),
      λ w.
          let wide : length o.new.lane ≡ a.c.now.m = long ∙ w in
          c.put_lanes.ensures ∙ ap (λ (z : ℕ). sets l.trace (z * l.k) (joined more (λ j. o.new.lane))) wide ∙ shown_more a.c.now (listed a.xs.now) a.trace.now l.trace _ a.from l.k more (i.3 w) (led_shown i.2 _ _ _ _ _ _ _ led wide),
    )

pub returns : goal.returns
returns c =
    let a = c.args in
    let l = c.loop-k in
    let xs = listed a.xs.now in
    let size = a.c.now.m * a.ticks in
    let all = log a.c.now xs a.from a.ticks in
    let q : l.k ≡ a.ticks = omega (arith, l.invariant.0, c.loop-k-test.false) in
    record {
      ok = (
        rw q at l.invariant.2,
        λ w. l.invariant.3 w ∙ ap (λ (k : ℕ). sets a.trace.now 0 (log a.c.now xs a.from k)) q ∙ front_is a.trace.now all size (length-log a.c.now xs a.from a.ticks) (rw w at c.requires.3),
      );
      err = tt;
      rest = λ w. rest_same l.trace a.trace.now _ a.c.now.m l.k a.ticks (l.invariant.3 w) (length-log a.c.now xs a.from l.k) l.invariant.0 (rw w at c.requires.3);
    }
