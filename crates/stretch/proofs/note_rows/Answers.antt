-- `stretch::note_rows` meets its contract. The loop's invariant: the responses on the first q processors are noted.
use Prim.Native.Nat.{ℕ, suc, ◌+◌, ◌-◌, ◌≤◌, ◌<◌}
use mathlib.Core.Path.{◌≡◌, sym, ◌∙◌, ap}
use mathlib.Core.List.{List}
use native.Mathlib.Omega.{arith}
use native.Mathlib.Numerals.{add-one}
use borrow.Author.Rules.{rules}
use lib.ListN.{length, take, drop, get_or, length-take, length-drop}
use lib.Seq.{get_or-take, get_or-drop}
use Rattle.lists.specs.Tab.{tab}
use Rattle.lists.proofs.Tab.{get_or-tab}
use Rattle.chain.specs.declared.Job.{Job}
use Rattle.chain.specs.Job.{no_job}
use Rattle.chain.specs.Unit.{push}
use Rattle.jobs.specs.Numbers.{job_in}
use Rattle.machine.specs.Tick.{noted_at, noted, noted_to}
use Rattle.stretch.proofs.Running.{push_fits, push_good}
use Rattle.stretch.proofs.note_rows.Goals.{then-row-gt0, else-row-gt0}
use Rattle.stretch.proofs.note_rows.Goals as goal

-- the rows of m processors, and each of them
rows-length : (picked : List ℕ) (m : ℕ) → m ≤ 16 → length picked ≡ 17 → length (take (m + 1 - 1) (drop 1 picked)) ≡ m
rows-length picked m h l = omega (arith, length-take (m + 1 - 1) (drop 1 picked), length-drop 1 picked)

row_at : (picked : List ℕ) (m q : ℕ) → q < m → get_or (take (m + 1 - 1) (drop 1 picked)) q 0 ≡ get_or picked (suc q) 0
row_at picked m q h =
    let n : 1 + q ≡ suc q = omega arith in
    get_or-take (m + 1 - 1) (drop 1 picked) q 0 (omega arith) ∙ get_or-drop 1 picked q 0 ∙ ap (λ (k : ℕ). get_or picked k 0) n

-- where a processor picks a row, that row
picked_row : (picked : List ℕ) (m q : ℕ) → m ≤ 16 → length picked ≡ 17 → q < length (take (m + 1 - 1) (drop 1 picked)) → 0 < get_or (take (m + 1 - 1) (drop 1 picked)) q 0 → get_or picked (suc q) 0 ≡ suc (get_or (take (m + 1 - 1) (drop 1 picked)) q 0 - 1)
picked_row picked m q h l b p = omega (arith, p, row_at picked m q (omega (arith, b, rows-length picked m h l)))

module _ (bounds : List ℕ) (t : ℕ) (f : ℕ → Job) (picked old : List ℕ) (q : ℕ) (worst : List ℕ) (e : worst ≡ noted_to bounds t (tab 64 f) picked q old) where
  noted_next : noted bounds t (tab 64 f) (get_or picked (suc q) 0) worst ≡ noted_to bounds t (tab 64 f) picked (q + 1) old
  unfolding noted_to
  noted_next = rw (e, add-one q)

  -- one processor more, which runs nothing
  noted_none : get_or picked (suc q) 0 ≡ 0 → worst ≡ noted_to bounds t (tab 64 f) picked (q + 1) old
  unfolding noted
  noted_none z = ap (λ (k : ℕ). noted bounds t (tab 64 f) k worst) (sym z) ∙ noted_next

  -- or which runs row i
  noted_more : (i : ℕ) (x : Job) (next : List ℕ) → get_or picked (suc q) 0 ≡ suc i → i < 64 → x ≡ f i → next ≡ noted_at bounds t i x x.place worst → next ≡ noted_to bounds t (tab 64 f) picked (q + 1) old
  unfolding noted
  noted_more i x next z l g n =
      let d : x ≡ get_or (tab 64 f) i no_job = g ∙ sym (get_or-tab 64 f i no_job l) in
      n ∙ ap (λ (y : Job). noted_at bounds t i y y.place worst) d ∙ ap (λ (k : ℕ). noted bounds t (tab 64 f) k worst) (sym z) ∙ noted_next

pub loop-row-init : goal.loop-row-init
unfolding noted_to
loop-row-init c = search rules

pub job_at-x-requires : goal.job_at-x-requires
job_at-x-requires c =
    let a = c.args in
    let q = c.loop-row.row-index in
    let z = picked_row a.picked.now a.c.now.m q c.requires.0 c.told-picked c.loop-row-test.true c.if-row-gt0.true in
    (c.requires.3 (suc q) _ (omega arith) z).0

pub push-y-requires : goal.push-y-requires
push-y-requires c =
    let a = c.args in
    let q = c.loop-row.row-index in
    let z = picked_row a.picked.now a.c.now.m q c.requires.0 c.told-picked c.loop-row-test.true c.if-row-gt0.true in
    push_fits (c.requires.3 (suc q) _ (omega arith) z).1 c.job_at-x.ensures c.requires.1

pub note-requires : goal.note-requires
note-requires c =
    let a = c.args in
    let q = c.loop-row.row-index in
    let z = picked_row a.picked.now a.c.now.m q c.requires.0 c.told-picked c.loop-row-test.true c.if-row-gt0.true in
    let p = c.requires.3 (suc q) _ (omega arith) z in
    (p.0, c.requires.1, c.requires.2, push_good p.1 c.job_at-x.ensures c.push-y.ensures)

pub loop-row-preserved : goal.loop-row-preserved
loop-row-preserved c =
    let a = c.args in
    let l = c.loop-row in
    let f : ℕ → Job = λ i. push a.t a.k (job_in a.jobs.now i) in
    elim c.if-row-gt0.branch [
      | then-row-gt0 w ↦
          let z = picked_row a.picked.now a.c.now.m l.row-index c.requires.0 c.told-picked c.loop-row-test.true w.if-row-gt0.true in
          w.worst-is ∙ noted_more a.c.now.bounds (a.t + a.k) f a.picked.now a.worst.now l.row-index l.worst l.invariant _ w.push-y.result _ z (c.requires.3 (suc l.row-index) _ (omega arith) z).0 (w.push-y.ensures ∙ ap (λ (x : Job). push a.t a.k x) w.job_at-x.ensures) w.note.ensures
      | else-row-gt0 w ↦
          let n = rows-length a.picked.now a.c.now.m c.requires.0 c.told-picked in
          let r = row_at a.picked.now a.c.now.m l.row-index (omega arith) in
          w.worst-is ∙ noted_none a.c.now.bounds (a.t + a.k) f a.picked.now a.worst.now l.row-index l.worst l.invariant (omega (arith, w.if-row-gt0.false))
    ]
