-- `arrivals::check_at` meets its contract. Each return has the tests that led there.
use Prim.Native.Nat.{ℕ, suc, ◌-◌, ◌≤◌, ◌<◌}
use mathlib.Core.Bool.{true≢false}
use mathlib.Core.List.{List}
use mathlib.Core.Path.{◌≡◌, sym, ◌∙◌, ap}
use native.Mathlib.Omega.{arith}
use lib.ListN.{get_or}
use Rattle.arrivals.specs.Arrival.{Arrival, listed}
use Rattle.arrivals.specs.Check.{last_of, fault_number}
use Rattle.arrivals.proofs.Fine.{number_15, number_16, number_17, number_18, number_none}
use Rattle.arrivals.proofs.check_at.Goals.{then-row-eq0-via-then-row-eq0, then-row-eq0-via-else-row-eq0+then-row-t}
use Rattle.arrivals.proofs.check_at.Goals.{then-x-ge1000000-via-then-x-ge1000000, then-x-ge1000000-via-else-x-ge1000000+then-disordered}
use Rattle.arrivals.proofs.check_at.Goals.{then-x-t-via-then-x-t, then-x-t-via-else-x-t+then-x-t-2, then-x-t-via-else-x-t+else-x-t-2+then-x-t-3}
use Rattle.arrivals.proofs.check_at.Goals.{else-mark-gt0-via-then-mark-gt0+else-x-mark, else-mark-gt0-via-else-mark-gt0}
use Rattle.arrivals.proofs.check_at.Goals as goal

-- the period and the mark that are kept for a row
kept : (n k r : ℕ) (periods marks : List ℕ) (xs : List Arrival) → ((i : ℕ) → i < n → (get_or periods i 0 ≤ 1000000) × (get_or marks i 0 ≤ 1000000) × (get_or marks i 0 ≡ last_of xs (suc i) k)) → 1 ≤ r → r ≤ n →
    (get_or periods (r - 1) 0 ≤ 1000000) × (get_or marks (r - 1) 0 ≤ 1000000) × (get_or marks (r - 1) 0 ≡ last_of xs r k)
kept n k r periods marks xs h s l =
    let q : suc (r - 1) ≡ r = omega arith in
    let p = h (r - 1) (omega arith) in
    (p.0, p.1, p.2 ∙ ap (λ (x : ℕ). last_of xs x k) q)

pub returns-then-row-eq0 : goal.returns-then-row-eq0
unfolding fault_number
returns-then-row-eq0 c =
    sym
    (number_15 _ _ _ _ _ _ _ _ (sym c.arrival-x.ensures)
    (λ r.
    elim c.then-row-eq0.branch [
      | then-row-eq0-via-then-row-eq0 w ↦ omega (arith, w.if-row-eq0.true, r.0)
      | then-row-eq0-via-else-row-eq0+then-row-t w ↦ omega (arith, w.if-row-t.true, r.1)
    ]))

pub returns-then-x-ge1000000 : goal.returns-then-x-ge1000000
unfolding fault_number
returns-then-x-ge1000000 c =
    sym
    (number_16 _ _ _ _ _ _ _ _ (sym c.arrival-x.ensures) (omega (arith, c.if-row-eq0.false), omega (arith, c.if-row-t.false))
    (λ t.
    elim c.then-x-ge1000000.branch [
      | then-x-ge1000000-via-then-x-ge1000000 w ↦ omega (arith, w.if-x-ge1000000.true, t.0)
      | then-x-ge1000000-via-else-x-ge1000000+then-disordered w ↦ true≢false (sym w.if-disordered.true ∙ w.disordered.ensures ∙ t.1)
    ]))

pub returns-then-x-t : goal.returns-then-x-t
unfolding fault_number
returns-then-x-t c =
    sym
    (number_17 _ _ _ _ _ _ _ _ (sym c.arrival-x.ensures)
    (omega (arith, c.if-row-eq0.false), omega (arith, c.if-row-t.false)) (omega (arith, c.if-x-ge1000000.false), sym c.disordered.ensures ∙ c.if-disordered.false)
    (λ l.
    elim c.then-x-t.branch [
      | then-x-t-via-then-x-t w ↦ omega (arith, w.if-x-t.true, l.0)
      | then-x-t-via-else-x-t+then-x-t-2 w ↦ omega (arith, w.if-x-t-2.true, l.1)
      | then-x-t-via-else-x-t+else-x-t-2+then-x-t-3 w ↦ omega (arith, w.if-x-t-3.true, l.2)
    ]))

pub overflow_add-mark : goal.overflow_add-mark
overflow_add-mark c =
    let a = c.args in
    let m = kept a.t.now.n a.k c.arrival-x.result.row a.t.now.period a.last.now (listed a.xs.now) c.requires.2 (omega (arith, c.if-row-eq0.false)) c.if-row-t.false in
    omega (arith, m.0, m.1)

pub returns-then-x-mark : goal.returns-then-x-mark
unfolding fault_number
returns-then-x-mark c =
    let a = c.args in
    let m = kept a.t.now.n a.k c.arrival-x.result.row a.t.now.period a.last.now (listed a.xs.now) c.requires.2 (omega (arith, c.if-row-eq0.false)) c.if-row-t.false in
    sym
    (number_18 _ _ _ _ _ _ _ _ (sym c.arrival-x.ensures)
    (omega (arith, c.if-row-eq0.false), omega (arith, c.if-row-t.false)) (omega (arith, c.if-x-ge1000000.false), sym c.disordered.ensures ∙ c.if-disordered.false)
    (omega (arith, c.if-x-t.false), omega (arith, c.if-x-t-2.false), omega (arith, c.if-x-t-3.false))
    (λ p. omega (arith, m.2, c.if-x-mark.true, p (omega (arith, m.2, c.if-mark-gt0.true)))))

pub returns : goal.returns
unfolding fault_number
returns c =
    let a = c.args in
    let m = kept a.t.now.n a.k c.arrival-x.result.row a.t.now.period a.last.now (listed a.xs.now) c.requires.2 (omega (arith, c.if-row-eq0.false)) c.if-row-t.false in
    sym
    (number_none _ _ _ _ _ _ _ _ (sym c.arrival-x.ensures)
    (record {
      row = (omega (arith, c.if-row-eq0.false), omega (arith, c.if-row-t.false));
      tick = (omega (arith, c.if-x-ge1000000.false), sym c.disordered.ensures ∙ c.if-disordered.false);
      lengths = (omega (arith, c.if-x-t.false), omega (arith, c.if-x-t-2.false), omega (arith, c.if-x-t-3.false));
      period = λ z.
          elim c.else-mark-gt0.branch [
            | else-mark-gt0-via-then-mark-gt0+else-x-mark w ↦ omega (arith, m.2, w.if-x-mark.false)
            | else-mark-gt0-via-else-mark-gt0 w ↦ absurd (omega (arith, m.2, z, w.if-mark-gt0.false))
          ];
    }))
