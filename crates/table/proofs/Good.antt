-- A table that is read without refusal is good: every row keeps to the paper's limits.
use Prim.Native.Nat.{ℕ, ◌+◌, ◌≤◌, ◌<◌}
use Rattle.std.specs.Prelude.{Result, Ok, Err}
use mathlib.Core.Path.{◌≡◌, refl, sym, ◌∙◌}
use mathlib.Core.List.{List}
use mathlib.Core.Bool.{Bool, true, false, cond}
use native.Mathlib.Omega.{arith}
use borrow.Author.Tests.{ltb-true, ltb-false, lt-ltb}
use lib.ListN.{get_or}
use lib.Dec.{ltb, eqb}
use Rattle.lists.proofs.Tab.{get_or-filled}
use Rattle.lists.proofs.First.{good_before}
use Rattle.table.specs.Row.{task_of, spare_of, judged, row_of, fault_number, number_of as row_number_of}
use Rattle.table.specs.Table.{task_count, processor_count, protocol_bit, header_number, row_bytes, row_number, first_bad, column, ranked, table_of, number_of, refusal, accepted, number_in, table_in, header_refusal, fault_with, rows_reading, reading_of}
use Rattle.table.specs.Good.{GoodHeader, GoodTask, task_at, GoodTable}
use Rattle.table.specs.declared.Task.{Task}
use Rattle.table.specs.declared.Table.{Table}
use Rattle.table.specs.declared.RowFault.{RowFault}
use Rattle.table.specs.declared.RowFault.TheVariants.{BadPeriod, BadResource, Disagree, BadSum}
use Rattle.table.specs.declared.Refusal.{Refusal}
use Rattle.table.specs.declared.Refusal.TheVariants.{TooShort, BadRows, BadProcessors, SpareBits, BadLength, BadRow}
use Rattle.lists.proofs.Tests.{clash}
use Rattle.table.proofs.Laws.{judged_good, header_good, fault_some, number_some}

-- a row that has no refusal is good
row_good : (w : List ℕ) → row_number_of (row_of w) ≡ 0 → GoodTask (task_of w)
unfolding row_of row_number_of
row_good w h = go (row_of w) refl h
  where
    go : (r : Result Task RowFault) → judged (task_of w) (spare_of w) ≡ r → row_number_of r ≡ 0 → GoodTask (task_of w)
    go (Ok u) e h = (judged_good (task_of w) (spare_of w) u e).1
    go (Err f) e h = absurd (omega (arith, fault_some f))

module _ (bs : List ℕ) (n : ℕ) where
  -- row k's place in a column
  at_column : (f : Task → ℕ) (k : ℕ) → k < n → get_or (column bs n f) k 0 ≡ f (task_of (row_bytes bs k))
  unfolding column
  at_column f k l = get_or-filled 64 0 (λ j. f (task_of (row_bytes bs j))) n k 0 l

  -- row k of the table is what its eleven bytes say
  pub task_read : (m : ℕ) (npp : Bool) (k : ℕ) → k < n → task_at (table_of bs n m npp) k ≡ task_of (row_bytes bs k)
  unfolding table_of ranked
  task_read m npp k l =
      rw (at_column (λ t. t.period) k l, at_column (λ t. t.c1) k l, at_column (λ t. t.a) k l, at_column (λ t. t.c2) k l, at_column (λ t. t.resource) k l)

  -- behind no bad row each row is good
  rows_good : n ≤ first_bad bs n → (k : ℕ) → k < n → GoodTask (task_of (row_bytes bs k))
  unfolding first_bad row_number
  rows_good h k l = row_good (row_bytes bs k) (good_before n (row_number bs) k (omega arith))

-- behind a good header: what is read without refusal of the rows is a good table
rows_table : (bs : List ℕ) (m : ℕ) (npp : Bool) → GoodHeader bs → (2 ≤ m) × (m ≤ 16) → (b : Bool) → ltb (first_bad bs (task_count bs)) (task_count bs) ≡ b → (r : Result Table Refusal) →
    r ≡ cond b (refusal (BadRow (fault_with (row_number bs (first_bad bs (task_count bs)))) (first_bad bs (task_count bs) + 1))) (accepted (table_of bs (task_count bs) m npp)) →
    number_in r ≡ 0 → GoodTable (table_in r)
unfolding table_of ranked
rows_table bs m npp g p true e (Err x) q z = absurd (omega (arith, number_some x))
rows_table bs m npp g p true e (Ok x) q z = clash cc
rows_table bs m npp g p false e r q z =
    rw q
    (record {
      rows = g.rows;
      processors = p;
      tasks = λ k l. rw (task_read bs (task_count bs) m npp k l) (rows_good bs (task_count bs) (ltb-false (first_bad bs (task_count bs)) (task_count bs) e) k l);
      ranks = refl;
      ceilings = refl;
    })

-- what is read without refusal is a good table
pub table_good : (bs : List ℕ) (r : Result Table Refusal) → r ≡ reading_of bs → number_in r ≡ 0 → GoodTable (table_in r)
unfolding reading_of rows_reading
table_good bs r q z = go (ltb 0 (header_number bs)) refl r q z
  where
    go : (b : Bool) → ltb 0 (header_number bs) ≡ b → (r : Result Table Refusal) → r ≡ cond b (refusal (header_refusal (header_number bs))) (rows_reading bs (task_count bs) (processor_count bs) (eqb (protocol_bit bs) 1)) → number_in r ≡ 0 → GoodTable (table_in r)
    go true e (Err x) q z = absurd (omega (arith, number_some x))
    go true e (Ok x) q z = clash cc
    go false e r q z =
        let g = header_good bs (omega (arith, ltb-false 0 (header_number bs) e)) in
        rows_table bs (processor_count bs) (eqb (protocol_bit bs) 1) g g.processors (ltb (first_bad bs (task_count bs)) (task_count bs)) refl r q z

-- "A is above 0 exactly when a resource is named": a row with a section names one
pub names_resource : (t : Table) → GoodTable t → (i : ℕ) → i < t.n → 1 ≤ get_or t.a i 0 → 1 ≤ get_or t.resource i 0
names_resource t g i l h = ltb-true 0 (get_or t.resource i 0) (sym (g.tasks i l).agree ∙ lt-ltb 0 (get_or t.a i 0) h)

-- no refusal has a number above 9
number_of_le : (e : Refusal) → number_of e ≤ 9
unfolding number_of fault_number
number_of_le TooShort = omega arith
number_of_le BadRows = omega arith
number_of_le BadProcessors = omega arith
number_of_le SpareBits = omega arith
number_of_le BadLength = omega arith
number_of_le (BadRow BadPeriod row) = omega arith
number_of_le (BadRow BadResource row) = omega arith
number_of_le (BadRow Disagree row) = omega arith
number_of_le (BadRow BadSum row) = omega arith

-- no refusal of a table has a number above 9
pub number_le : (bs : List ℕ) → number_in (reading_of bs) ≤ 9
number_le bs = go (reading_of bs)
  where
    go : (r : Result Table Refusal) → number_in r ≤ 9
    go (Ok t) = omega arith
    go (Err e) = number_of_le e
