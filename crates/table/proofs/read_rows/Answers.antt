-- `table::read_rows` meets its contract.
use Prim.Native.Nat.{ℕ, ◌+◌}
use Rattle.std.proofs.Common.{Result, Ok, Err}
use Rattle.std.specs.Prelude.{MatchResult, IsErrAnd}
use Rattle.std.proofs.lemmas.Result.{err_from_is_err_and}
use Rattle.lists.proofs.Tests.{clash}
use mathlib.Core.Path.{◌≡◌, refl, sym, ◌∙◌, ap}
use native.Mathlib.Omega.{arith}
use borrow.Author.Rules.{rules}
use borrow.Author.Count.{below_more}
use Rattle.table.specs.Table.{table_of, ranked, column, row_bytes, refusal}
use Rattle.table.specs.declared.Task.{Task}
use Rattle.table.specs.declared.Table.{Table}
use Rattle.table.specs.declared.RowFault.{RowFault}
use Rattle.table.specs.declared.Refusal.{Refusal}
use Rattle.table.specs.declared.Refusal.TheVariants.{BadRow}
use mathlib.Core.List.{List}
use Rattle.table.proofs.Laws.{good_task, good_row, rows_refused, rows_accepted, column_none, column_more}
use Rattle.table.proofs.read_rows.Invariants.{rows_in}
use Rattle.table.proofs.read_rows.Goals as goal

-- what a row's refusal by its place says of the row
row_ok : (r : Result Task RowFault) (t : Task) (P : RowFault → Refusal → Type 0) → MatchResult r (λ x. ◌≡◌ {A = Result Task Refusal} (Ok t) (Ok x)) (λ f. IsErrAnd {T = Task} {E = Refusal} (Ok t) (P f)) → r ≡ Ok t
row_ok (Ok x) t P h = cc
row_ok (Err f) t P h = absurd h

row_err : (r : Result Task RowFault) (e : Refusal) (Q : RowFault → Type 0) → MatchResult r (λ x. ◌≡◌ {A = Result Task Refusal} (Err e) (Ok x)) Q → (f : RowFault) × (r ≡ Err f) × Q f
row_err (Ok x) e Q h = clash cc
row_err (Err f) e Q h = (f, refl, h)

pub loop-i-init : goal.loop-i-init
loop-i-init c =
    let bs = c.args.bytes.now in
    record { good = λ k l. absurd (omega arith); held = rw (c.blank-t.ensures, column_none bs (λ t. t.period), column_none bs (λ t. t.c1), column_none bs (λ t. t.a), column_none bs (λ t. t.c2), column_none bs (λ t. t.resource)) }

pub returns-in_err-row : goal.returns-in_err-row
returns-in_err-row c =
    let p = err_from_is_err_and c.from_residual.result c.from_residual.ensures.1 in
    let e = c.in_err-row.field-0.0 in
    let (f, q, m) = row_err c.row_at.result e _ c.in_err-row.ensures.cases in
    let l = c.loop-i in
    let h = c.args.h in
    let r = rows_refused c.args.bytes.now h.n h.m h.npp l.i-counter f (omega arith) l.invariant.good (sym c.row_at.ensures ∙ q) in
    let k : e ≡ BadRow f (l.i-counter + 1) = search rules in
    p.1 ∙ ap (λ (x : Refusal). refusal x) (p.2 ∙ k) ∙ sym r

pub loop-i-preserved : goal.loop-i-preserved
loop-i-preserved c =
    let l = c.loop-i in
    let bs = c.args.bytes.now in
    let i = l.i-counter in
    let t = c.in_ok-row.row in
    let q = sym c.row_at.ensures ∙ row_ok c.row_at.result t (λ f e. e ≡ BadRow f (i + 1)) c.in_ok-row.ensures.cases in
    let h = good_task (row_bytes bs i) t q in
    let g = l.invariant.held in
    let set_in = λ (f : Task → ℕ). λ (xs : List ℕ). λ (e : xs ≡ column bs i f). column_more bs f i (omega arith) xs t e h in
    record {
      good = below_more _ _ l.invariant.good (good_row bs t i q);
      held = rw (
        set_in (λ t. t.period) l.t.period (ap (λ (t : Table). t.period) g),
        set_in (λ t. t.c1) l.t.c1 (ap (λ (t : Table). t.c1) g),
        set_in (λ t. t.a) l.t.a (ap (λ (t : Table). t.a) g),
        set_in (λ t. t.c2) l.t.c2 (ap (λ (t : Table). t.c2) g),
        set_in (λ t. t.resource) l.t.resource (ap (λ (t : Table). t.resource) g),
        ap (λ (t : Table). t.n) g,
        ap (λ (t : Table). t.m) g,
        ap (λ (t : Table). t.npp) g,
        ap (λ (t : Table). t.rank) g,
        ap (λ (t : Table). t.ceiling) g,
      );
    }

pub returns : goal.returns
unfolding table_of ranked
returns c =
    let l = c.loop-i in
    let bs = c.args.bytes.now in
    let h = c.args.h in
    let q : l.i-counter ≡ h.n = omega arith in
    let g : l.t ≡ rows_in bs h h.n = rw q at l.invariant.held in
    rw (rows_accepted bs h.n h.m h.npp (λ k x. l.invariant.good k (omega arith)), c.ceilings-ceiling.ensures, c.ranks-rank.ensures, g)
