-- `machine::release_each` meets its contract: the first i rows have their releases, none of them too early.
use mathlib.Core.Path.{◌≡◌, sym}
use native.Mathlib.Omega.{arith}
use native.Mathlib.Nat.{add-zero}
use Rattle.std.specs.Prelude.{Some, None}
use Rattle.std.proofs.lemmas.Result.{err_from_is_err_and}
use Rattle.arrivals.specs.Arrival.{listed}
use Rattle.arrivals.proofs.Numbers.{length_listed}
use Rattle.machine.proofs.Releasing.{arrives, started, asked, tells, goes_on, stays, all_in}
use Rattle.machine.proofs.release_each.Goals.{in-Some+in_ok-release_row-in-Some, in-None+then-due-i+in_ok-release_row-in-None, in-None+else-due-i}
use Rattle.machine.proofs.release_each.Goals as goal

pub loop-i-init : goal.loop-i-init
loop-i-init c = started c.requires.2 c.requires.3

pub release_row-requires : goal.release_row-requires
release_row-requires c = asked c.requires.2 c.requires.3 c.loop-i.invariant (omega arith) c.requires.0 c.requires.1

pub release_row-requires-then-due-i : goal.release_row-requires-then-due-i
release_row-requires-then-due-i c = asked c.requires.2 c.requires.3 c.loop-i.invariant (omega arith) c.requires.0 c.requires.1

pub returns-in_err-release_row-in-Some-clause-err : goal.returns-in_err-release_row-in-Some-clause-err
returns-in_err-release_row-in-Some-clause-err c =
    let here : Some c.in-Some.lens ≡ arrives (listed c.args.xs.now) c.loop-i.i c.args.t c.loop-i.at = rw (length_listed c.args.xs.now) c.in-Some.ensures in
    let p = err_from_is_err_and c.from_residual.result c.from_residual.ensures.1 in
    rw (p.1, p.2) (tells c.requires.2 c.requires.3 c.loop-i.invariant (omega arith) (Some c.in-Some.lens) here _ c.in_err-release_row-in-Some.ensures.err)

pub returns-in_err-release_row-in-None-clause-err : goal.returns-in_err-release_row-in-None-clause-err
returns-in_err-release_row-in-None-clause-err c =
    let here : None ≡ arrives (listed c.args.xs.now) c.loop-i.i c.args.t c.loop-i.at = rw (length_listed c.args.xs.now) c.in-None.ensures in
    let p = err_from_is_err_and c.from_residual-in_err-release_row-in-None.result c.from_residual-in_err-release_row-in-None.ensures.1 in
    rw (p.1, p.2) (tells c.requires.2 c.requires.3 c.loop-i.invariant (omega arith) None here _ c.in_err-release_row-in-None.ensures.err)

pub loop-i-preserved : goal.loop-i-preserved
loop-i-preserved c =
    let l = c.loop-i in
    let w = l.invariant in
    elim c.match-brought.branch [
      | in-Some+in_ok-release_row-in-Some v ↦
          let here : Some v.in-Some.lens ≡ arrives (listed c.args.xs.now) l.i c.args.t l.at = rw (length_listed c.args.xs.now) v.in-Some.ensures in
          let f = v.release_row.ensures.released in
          rw (v.jobs-is, v.due-is, v.at-is) (goes_on c.requires.2 c.requires.3 w (omega arith) (Some v.in-Some.lens) here v.release_row.new.jobs v.release_row.new.due v.release_row.array_long f.0 f.1 (sym v.in_ok-release_row-in-Some.ensures.ok))
      | in-None+then-due-i+in_ok-release_row-in-None v ↦
          let here : None ≡ arrives (listed c.args.xs.now) l.i c.args.t l.at = rw (length_listed c.args.xs.now) v.in-None.ensures in
          let f = v.release_row-then-due-i.ensures.released in
          rw (v.jobs-is, v.due-is, v.at-is) (rw (add-zero l.at) at (goes_on c.requires.2 c.requires.3 w (omega arith) None here v.release_row-then-due-i.new.jobs v.release_row-then-due-i.new.due v.release_row-then-due-i.array_long f.0 f.1 (sym v.in_ok-release_row-in-None.ensures.ok)))
      | in-None+else-due-i v ↦ rw (v.jobs-is, v.due-is, v.at-is) (stays c.requires.2 c.requires.3 w (omega arith) (rw (length_listed c.args.xs.now) v.in-None.ensures) v.if-due-i.false)
    ]

pub returns-clause-ok : goal.returns-clause-ok
returns-clause-ok c =
    let e : c.loop-i.i ≡ c.args.c.now.n = omega arith in
    all_in c.requires.2 c.requires.3 (rw e at c.loop-i.invariant)
