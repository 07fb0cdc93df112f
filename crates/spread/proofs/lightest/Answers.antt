-- `spread::lightest` meets its contract. The loop's invariant: `best` is the least loaded of the processors ahead of p.
use Prim.Native.Nat.{ℕ, ◌+◌, ◌-◌, ◌≤◌}
use mathlib.Core.Path.{◌≡◌, sym, ◌∙◌}
use mathlib.Core.List.{List}
use mathlib.Core.Bool.{cond}
use native.Mathlib.Omega.{arith}
use borrow.Author.Tests.{lt-ltb, le-ltb}
use borrow.Author.Rules.{rules}
use lib.ListN.{get_or}
use lib.Dec.{ltb}
use Rattle.spread.specs.Spread.{lightest_of}
use Rattle.spread.proofs.Spread.{lightest_more}
use Rattle.spread.proofs.lightest.Goals.{then-load-p, else-load-p}
use Rattle.spread.proofs.lightest.Goals as goal

-- processor p is looked at, after those ahead of it
looked : (loads : List ℕ) (p best : ℕ) → 1 ≤ p → best ≡ lightest_of loads (p - 1) → lightest_of loads p ≡ cond (ltb (get_or loads p 0) (get_or loads best 0)) p best
looked loads p best h e =
    let q : p - 1 + 1 ≡ p = omega arith in
    rw e (rw q at (lightest_more loads (p - 1)))

pub loop-p-init : goal.loop-p-init
unfolding lightest_of
loop-p-init c = search rules

pub loop-p-preserved : goal.loop-p-preserved
loop-p-preserved c =
    let l = c.loop-p in
    let x = looked c.args.load.now l.p l.best (omega arith) l.invariant.1 in
    let q : l.p + 1 - 1 ≡ l.p = omega arith in
    elim c.if-load-p.branch [
      | then-load-p w ↦ (omega arith, rw (q, w.best-is) (sym (x ∙ rw (lt-ltb _ _ w.if-load-p.true))), omega (arith, w.best-is), omega (arith, w.best-is))
      | else-load-p w ↦ (omega arith, rw (q, w.best-is) (sym (x ∙ rw (le-ltb _ _ w.if-load-p.false))), omega (arith, w.best-is), omega (arith, w.best-is))
    ]

pub returns : goal.returns
returns c =
    let l = c.loop-p in
    let q : l.p - 1 ≡ c.args.s = omega arith in
    ((rw q at l.invariant.1), omega arith, omega arith)

pub returns-after-load-p : goal.returns-after-load-p
returns-after-load-p c =
    let l = c.loop-p in
    let x = looked c.args.load.now l.p l.best (omega arith) l.invariant.1 in
    let q : c.args.s ≡ l.p = omega arith in
    elim c.if-load-p.branch [
      | then-load-p w ↦ (rw (q, w.best-is) (sym (x ∙ rw (lt-ltb _ _ w.if-load-p.true))), omega (arith, w.best-is), omega (arith, w.best-is))
      | else-load-p w ↦ (rw (q, w.best-is) (sym (x ∙ rw (le-ltb _ _ w.if-load-p.false))), omega (arith, w.best-is), omega (arith, w.best-is))
    ]
