-- `picks::look_over` meets its contract. The loop's invariant: the array has what each processor has to choose from among the first i rows.
use Prim.Native.Nat.{◌<◌}
use mathlib.Core.Path.{◌≡◌, sym, ◌∙◌, ap}
use native.Mathlib.Omega.{arith}
use Rattle.std.proofs.Common.{rules}
use lib.Dec.{ltb}
use Rattle.chain.specs.Good.{part_of, GoodJob}
use Rattle.jobs.proofs.Laws.{jobs_at_lem}
use Rattle.picks.specs.Pick.{gtb}
use Rattle.picks.proofs.Columns.{columns_none, columns_idle, columns_stage, columns_first, columns_held}
use Rattle.picks.proofs.look_over.Goals.{in-Running+then-part-ne1, in-Running+else-part-ne1+then-x-eq0, in-Running+else-part-ne1+else-x-eq0, in_default}
use Rattle.picks.proofs.look_over.Goals as goal

pub loop-i-init : goal.loop-i-init
loop-i-init c = rw c.requires.2 (columns_none _ _ _ _)

pub home_of-q-requires : goal.home_of-q-requires
home_of-q-requires c =
    let l = c.loop-i in
    let b : l.i < 64 = omega (arith, c.requires.0.few) in
    let job = jobs_at_lem c.args.jobs.now l.i b ∙ sym c.job_at-x.ensures in
    let good : GoodJob c.job_at-x.result = rw job at (c.requires.1 l.i c.loop-i-test.true) in
    (b, omega (arith, ap part_of c.in-Running.is, good.part), c.requires.0.on)

pub loop-i-preserved : goal.loop-i-preserved
loop-i-preserved c =
    let l = c.loop-i in
    let job = jobs_at_lem c.args.jobs.now l.i (omega (arith, c.requires.0.few)) ∙ sym c.job_at-x.ensures in
    elim c.match-x.branch [
      | in-Running+then-part-ne1 w ↦
          rw w.offers-is
          (columns_stage _ _ _ _ _ _ l.invariant _ job w.in-Running.part w.in-Running.left _ w.in-Running.is w.home_of-q.ensures.0 w.home_of-q.ensures.1 _ w.if-part-ne1.true (w.against.ensures ltb (λ k b r p. search (rules, p))))
      | in-Running+else-part-ne1+then-x-eq0 w ↦
          rw w.offers-is
          (columns_first _ _ _ _ _ _ l.invariant _ job w.in-Running.part w.in-Running.left _ w.in-Running.is w.home_of-q.ensures.0 w.home_of-q.ensures.1 _ w.if-part-ne1.false w.if-x-eq0.true (w.against-then-x-eq0.ensures ltb (λ k b r p. search (rules, p))))
      | in-Running+else-part-ne1+else-x-eq0 w ↦
          rw w.offers-is
          (columns_held _ _ _ _ _ _ l.invariant _ job w.in-Running.part w.in-Running.left _ w.in-Running.is w.home_of-q.ensures.0 w.home_of-q.ensures.1 _ _ w.if-part-ne1.false w.if-x-eq0.false (w.against-else-x-eq0.ensures gtb (λ k b r p. search (rules, p))) w.smaller-o.ensures)
      | in_default w ↦ rw w.offers-is (columns_idle _ _ _ _ _ _ l.invariant _ job w.in_default.not-Running)
    ]

pub returns : goal.returns
returns c =
    let e : c.loop-i.i ≡ c.args.n = omega (arith, c.loop-i.auto.i-end) in
    (rw e at c.loop-i.invariant).1
