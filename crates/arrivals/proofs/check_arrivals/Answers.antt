-- `arrivals::check_arrivals` meets its contract. The loop's invariant: the first k arrivals have no refusal, and each row's mark is kept.
use Prim.Native.Nat.{ℕ, suc, ◌+◌, ◌-◌, ◌≤◌, ◌<◌}
use mathlib.Core.List.{List}
use mathlib.Core.Logic.{dite}
use mathlib.Core.Path.{◌≡◌, refl, sym, ◌∙◌, ap}
use borrow.Author.Rules.{rules}
use Rattle.std.specs.Prelude.{Result, Ok, Err, ⊤, MatchResult, true, is_ok}
use Rattle.std.proofs.lemmas.Result.{err_from_is_err_and}
use Rattle.lists.proofs.Tests.{clash}
use native.Mathlib.Decide.{ℕ_discrete}
use native.Mathlib.Numerals.{add-one}
use native.Mathlib.Omega.{arith}
use borrow.Author.Count.{below_more}
use borrow.Author.Tests.{eq-eqb, ne_eqb}
use lib.ListN.{length, get_or, set, length-set}
use lib.Seq.{get_or-set_same, get_or-set_other}
use Rattle.lists.proofs.Tab.{length-blank, get_or-blank}
use Rattle.arrivals.specs.Arrival.{Arrival, arrival_at, listed}
use Rattle.arrivals.specs.Check.{Fault, Unheard, last_of, fault_number, number_by, number_at}
use Rattle.arrivals.proofs.Numbers.{length_listed}
use Rattle.arrivals.proofs.Fine.{fine, heard_fault, heard_none}
use Rattle.arrivals.proofs.check_arrivals.Invariants.{Kept}
use Rattle.arrivals.proofs.check_arrivals.Goals as goal

-- one arrival more: its row's mark is one more than its tick
kept_more : (xs : List Arrival) (n k : ℕ) (last : List ℕ) (x : Arrival) → arrival_at xs k ≡ x → (1 ≤ x.row) × (x.row ≤ n) → n ≤ length last → x.tick < 1000000 →
    Kept xs n k last → Kept xs n (k + 1) (set last (x.row - 1) (x.tick + 1))
unfolding last_of
kept_more xs n k last x e r l t kept i h =
    dite (ℕ_discrete x.row (suc i))
    (λ q.
    let p : x.row - 1 ≡ i = omega arith in
    let g : get_or (set last (x.row - 1) (x.tick + 1)) i 0 ≡ suc x.tick = rw (p, add-one) (get_or-set_same last i (suc x.tick) 0 (omega arith)) in
    rw (add-one k, e, eq-eqb _ _ q) (omega arith, g))
    (λ q.
    let g : get_or (set last (x.row - 1) (x.tick + 1)) i 0 ≡ get_or last i 0 = get_or-set_other last (x.row - 1) i (x.tick + 1) 0 (λ p. q (omega arith)) in
    rw (add-one k, e, ne_eqb _ _ q, g) (kept i h))

-- what a fault by its position says of the arrival
at_ok : (r : Result ⊤ Fault) → true ≡ is_ok r → number_by r ≡ 0
at_ok (Ok x) h = refl
at_ok (Err f) h = clash cc

at_err : (r : Result ⊤ Fault) (e : Unheard) (Q : Fault → Type 0) → MatchResult r (λ x. ◌≡◌ {A = Result ⊤ Unheard} (Err e) (Ok x)) Q → (f : Fault) × (number_by r ≡ fault_number f) × Q f
at_err (Ok x) e Q h = clash cc
at_err (Err f) e Q h = (f, refl, h)

pub loop-k-init : goal.loop-k-init
unfolding last_of
loop-k-init c =
    let e = c.blank-last.ensures in
    let z : (i : ℕ) → get_or c.blank-last.result i 0 ≡ 0 = λ i. rw e (get_or-blank 64 0 i) in
    record { long = rw e (length-blank 64 0); good = λ j l. absurd (omega arith); kept = λ i l. (omega (arith, z i), z i) }

pub returns-in_err-map_err : goal.returns-in_err-map_err
returns-in_err-map_err c =
    let p = err_from_is_err_and c.from_residual.result c.from_residual.ensures.1 in
    let e = c.in_err-map_err.field-0.0 in
    let (f, q, m) = at_err c.check_at.result e _ c.in_err-map_err.ensures.cases in
    let xs = c.args.xs.now in
    let t = c.args.t.now in
    let l = c.loop-k in
    let b : number_at t.n t.period t.c1 t.a t.c2 (listed xs) l.k-counter ≡ fault_number f = sym c.check_at.ensures ∙ q in
    let r = heard_fault t.n t.period t.c1 t.a t.c2 (listed xs) l.k-counter f (omega (arith, length_listed xs)) l.invariant.good b in
    let k : e ≡ record { fault = f; position = l.k-counter + 1 } = search rules in
    p.1 ∙ ap (λ (x : Unheard). Err x) (p.2 ∙ k) ∙ sym r

pub overflow_sub-last : goal.overflow_sub-last
overflow_sub-last c =
    let t = c.args.t.now in
    let f = fine t.n t.period t.c1 t.a t.c2 (listed c.args.xs.now) c.loop-k.k-counter c.arrival-x.result (sym c.arrival-x.ensures) (sym c.check_at.ensures ∙ at_ok c.check_at.result c.in_ok-map_err.ensures.variant) in
    f.row.0

pub overflow_add-last : goal.overflow_add-last
overflow_add-last c =
    let t = c.args.t.now in
    let f = fine t.n t.period t.c1 t.a t.c2 (listed c.args.xs.now) c.loop-k.k-counter c.arrival-x.result (sym c.arrival-x.ensures) (sym c.check_at.ensures ∙ at_ok c.check_at.result c.in_ok-map_err.ensures.variant) in
    omega (arith, f.tick.0)

pub bounds-last-x : goal.bounds-last-x
bounds-last-x c =
    let t = c.args.t.now in
    let f = fine t.n t.period t.c1 t.a t.c2 (listed c.args.xs.now) c.loop-k.k-counter c.arrival-x.result (sym c.arrival-x.ensures) (sym c.check_at.ensures ∙ at_ok c.check_at.result c.in_ok-map_err.ensures.variant) in
    omega (arith, f.row)

pub loop-k-preserved : goal.loop-k-preserved
loop-k-preserved c =
    let t = c.args.t.now in
    let xs = listed c.args.xs.now in
    let l = c.loop-k in
    let x = c.arrival-x.result in
    let e = sym c.arrival-x.ensures in
    let none = sym c.check_at.ensures ∙ at_ok c.check_at.result c.in_ok-map_err.ensures.variant in
    let f = fine t.n t.period t.c1 t.a t.c2 xs l.k-counter x e none in
    record {
      long = simp length-set l.invariant.long;
      good = below_more _ _ l.invariant.good none;
      kept = kept_more xs t.n l.k-counter l.last x e f.row (omega arith) f.tick.0 l.invariant.kept;
    }

pub returns : goal.returns
returns c =
    let a = c.args in
    let t = c.args.t.now in
    let xs = c.args.xs.now in
    let l = c.loop-k in
    sym (heard_none t.n t.period t.c1 t.a t.c2 (listed xs) (λ j h. l.invariant.good j (omega (arith, length_listed xs))))
