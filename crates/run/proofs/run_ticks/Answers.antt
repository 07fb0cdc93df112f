-- `run::run_ticks` meets its contract: from the empty start through the ticks before the window and those of the window.
use Prim.Native.Nat.{ℕ, ◌+◌, ◌*◌, ◌≤◌}
use mathlib.Core.Path.{◌≡◌, ap, ◌∙◌}
use mathlib.Core.List.{List, ◌++◌}
use native.Mathlib.Omega.{arith}
use lib.ListN.{length, take, drop, replicate}
use lib.Seq.{length-take-le}
use Rattle.lists.specs.Tab.{blank}
use Rattle.arrivals.specs.Arrival.{listed}
use Rattle.run.specs.Run.{done}
use Rattle.run.specs.Refused.{refusal_answer}
use Rattle.run.proofs.Steps.{starts, good_in}
use Rattle.run.proofs.Ends.{fell, stood}
use Rattle.run.proofs.run_ticks.Goals as goal

pub wind_and_play-requires : goal.wind_and_play-requires
wind_and_play-requires c =
    let p = c.requires in
    (p.0, p.2, p.3, rw c.start-s.ensures (starts c.args.c.now (listed c.args.xs.now) p.2.homed.few p.4))

pub count_up-requires : goal.count_up-requires
count_up-requires c =
    let p = c.requires in
    (p.2.homed.few, good_in c.in_default.ensures.ok.0 p.2 p.0)

pub returns : goal.returns
returns c =
    let a = c.args in
    let r = c.in_default.ensures.ok in
    let e = stood a.c.now (listed a.xs.now) a.from a.ticks a.trace.now _ _ _ _ r.0 in
    (c.done.ensures ∙ ap (done _) c.count_up.ensures ∙ e.0, r.1 ∙ e.1)

-- zeros in place of the front of a list
zeros : (n : ℕ) (l : List ℕ) → n ≤ length l → replicate {A = ℕ} (length (take n l)) 0 ≡ blank n 0
unfolding blank
zeros n l h = ap (λ (k : ℕ). replicate {A = ℕ} k 0) (length-take-le n l h)

pub returns-in-Err : goal.returns-in-Err
unfolding refusal_answer
returns-in-Err c =
    let a = c.args in
    let r = c.in-Err.ensures in
    let e = fell a.c.now (listed a.xs.now) a.from a.ticks a.trace.now (a.from + a.ticks) c.in-Err.e.row (omega arith) r.err in
    let z = c.fill.ensures in
    let filled : c.fill.new.self ≡ blank (a.c.now.m * a.ticks) 0 = z.after (λ y h. h) ∙ zeros (a.c.now.m * a.ticks) _ (omega (arith, c.wind_and_play.auto.trace, c.requires.3)) in
    (e.0, ap (λ (l : List ℕ). l ++ drop (a.c.now.m * a.ticks) c.wind_and_play.new.trace) filled ∙ ap (λ (l : List ℕ). blank (a.c.now.m * a.ticks) 0 ++ l) r.rest ∙ e.1)
