-- Laws of the table's definitions that the reader's loop goes by.
use Prim.Native.Nat.{ℕ, ◌+◌, ◌*◌, ◌≤◌, ◌<◌}
use mathlib.Core.Path.{◌≡◌, refl, sym, ◌∙◌, ap}
use mathlib.Core.List.{List}
use Rattle.std.specs.Prelude.{Result, Ok, Err}
use mathlib.Core.Bool.{Bool, true, false, cond, not, ◌||◌, xor}
use native.Mathlib.Omega.{arith}
use borrow.Author.Tests.{lt-ltb, le-ltb, ltb-true, ltb-false, eqb-true, not-false}
use lib.ListN.{length, set}
use lib.Dec.{ltb, eqb}
use Rattle.lists.specs.Tab.{blank}
use Rattle.lists.proofs.Tests.{clash, neither}
use Rattle.lists.proofs.Tab.{filled_none, filled_more}
use Rattle.lists.proofs.First.{first_bad_lem, none_bad}
use Rattle.table.specs.Row.{outside, task_of, spare_of, judged, row_of, fault_number, number_of as row_number_of}
use Rattle.table.specs.Table.{task_count, processor_count, spare_bits, header_number, header_refusal, header_in, header_of, row_bytes, row_number, first_bad, column, table_of, number_of, refusal, accepted, number_in, table_in, fault_with, rows_reading, reading_of}
use Rattle.table.specs.Good.{GoodHeader, GoodTask}
use Rattle.table.specs.declared.Task.{Task}
use Rattle.table.specs.declared.Table.{Table}
use Rattle.table.specs.declared.RowFault.{RowFault}
use Rattle.table.specs.declared.RowFault.TheVariants.{BadPeriod, BadResource, Disagree, BadSum}
use Rattle.table.specs.declared.Header.{Header}
use Rattle.table.specs.declared.Refusal.{Refusal}
use Rattle.table.specs.declared.Refusal.TheVariants.{TooShort, BadRows, BadProcessors, SpareBits, BadLength, BadRow}

-- a number that is not outside lo to hi is in it
pub inside : (x lo hi : ℕ) → outside x lo hi ≡ false → (lo ≤ x) × (x ≤ hi)
unfolding outside
inside x lo hi h =
    let (a, b) = neither (ltb x lo) (ltb hi x) h in
    (ltb-false x lo a, ltb-false hi x b)

-- a header that none of 1 to 5 refuses is good
pub header_good : (bs : List ℕ) → header_number bs ≡ 0 → GoodHeader bs
unfolding header_number
header_good bs h =
    go (ltb (length bs) 2) (outside (task_count bs) 1 64) (outside (processor_count bs) 2 16) (ltb 0 (spare_bits bs)) (not (eqb (length bs) (2 + 11 * task_count bs)))
    refl refl refl h
  where
    go : (b1 b2 b3 b4 b5 : Bool) → outside (task_count bs) 1 64 ≡ b2 → outside (processor_count bs) 2 16 ≡ b3 → not (eqb (length bs) (2 + 11 * task_count bs)) ≡ b5 → ◌≡◌ {A = ℕ} (cond b1 1 (cond b2 2 (cond b3 3 (cond b4 4 (cond b5 5 0))))) 0 → GoodHeader bs
    go true b2 b3 b4 b5 e2 e3 e5 h = absurd (omega arith)
    go false true b3 b4 b5 e2 e3 e5 h = absurd (omega arith)
    go false false true b4 b5 e2 e3 e5 h = absurd (omega arith)
    go false false false true b5 e2 e3 e5 h = absurd (omega arith)
    go false false false false true e2 e3 e5 h = absurd (omega arith)
    go false false false false false e2 e3 e5 h =
        record {
          rows = inside (task_count bs) 1 64 e2;
          processors = inside (processor_count bs) 2 16 e3;
          whole = eqb-true (length bs) (2 + 11 * task_count bs) (not-false _ e5);
        }

-- no refusal of a header has a number above 5
pub header_le : (bs : List ℕ) → header_number bs ≤ 5
unfolding header_number
header_le bs = go (ltb (length bs) 2) (outside (task_count bs) 1 64) (outside (processor_count bs) 2 16) (ltb 0 (spare_bits bs)) (not (eqb (length bs) (2 + 11 * task_count bs)))
  where
    go : (b1 b2 b3 b4 b5 : Bool) → cond b1 1 (cond b2 2 (cond b3 3 (cond b4 4 (cond b5 5 0)))) ≤ 5
    go true b2 b3 b4 b5 = omega arith
    go false true b3 b4 b5 = omega arith
    go false false true b4 b5 = omega arith
    go false false false true b5 = omega arith
    go false false false false true = omega arith
    go false false false false false = omega arith

-- tests that do not differ
same : (a b : Bool) → xor a b ≡ false → a ≡ b
unfolding xor
same true true e = refl
same true false e = e
same false true e = sym e
same false false e = refl

-- a row that is judged good is the one that was judged, and keeps to the limits
pub judged_good : (t : Task) (spare : ℕ) (u : Task) → judged t spare ≡ Ok u → (u ≡ t) × GoodTask t
unfolding judged
judged_good t spare u h =
    go (outside t.period 1 1000000) (ltb 16 t.resource || ltb 0 spare) (xor (ltb 0 t.a) (ltb 0 t.resource)) (outside (t.c1 + t.a + t.c2) 1 t.period)
    refl refl refl refl h
  where
    go : (b1 b2 b3 b4 : Bool) → outside t.period 1 1000000 ≡ b1 → (ltb 16 t.resource || ltb 0 spare) ≡ b2 → xor (ltb 0 t.a) (ltb 0 t.resource) ≡ b3 → outside (t.c1 + t.a + t.c2) 1 t.period ≡ b4 → cond b1 (Err BadPeriod) (cond b2 (Err BadResource) (cond b3 (Err Disagree) (cond b4 (Err BadSum) (Ok t)))) ≡ Ok u → (u ≡ t) × GoodTask t
    go true b2 b3 b4 e1 e2 e3 e4 h = clash cc
    go false true b3 b4 e1 e2 e3 e4 h = clash cc
    go false false true b4 e1 e2 e3 e4 h = clash cc
    go false false false true e1 e2 e3 e4 h = clash cc
    go false false false false e1 e2 e3 e4 h = (
      cc,
      record {
        period = inside t.period 1 1000000 e1;
        resource = ltb-false 16 t.resource (neither (ltb 16 t.resource) (ltb 0 spare) e2).0;
        agree = same (ltb 0 t.a) (ltb 0 t.resource) e3;
        sum = inside (t.c1 + t.a + t.c2) 1 t.period e4;
      },
    )

-- a good row is the task in its bytes
pub good_task : (w : List ℕ) (t : Task) → row_of w ≡ Ok t → t ≡ task_of w
unfolding row_of
good_task w t h = (judged_good (task_of w) (spare_of w) t h).0

-- a fault has a number above 0
pub fault_some : (f : RowFault) → 0 < fault_number f
unfolding fault_number
fault_some BadPeriod = omega arith
fault_some BadResource = omega arith
fault_some Disagree = omega arith
fault_some BadSum = omega arith

-- and is the one with that number
fault_back : (f : RowFault) → fault_with (fault_number f) ≡ f
unfolding fault_with fault_number
fault_back BadPeriod = refl
fault_back BadResource = refl
fault_back Disagree = refl
fault_back BadSum = refl

-- each refusal has a number above 0
pub number_some : (e : Refusal) → 0 < number_of e
unfolding number_of
number_some TooShort = omega arith
number_some BadRows = omega arith
number_some BadProcessors = omega arith
number_some SpareBits = omega arith
number_some BadLength = omega arith
number_some (BadRow f row) = fault_some f

-- the refusal with a header's number has it
pub header_numbered : (bs : List ℕ) → 0 < header_number bs → number_of (header_refusal (header_number bs)) ≡ header_number bs
unfolding header_number header_refusal number_of
header_numbered bs = go (ltb (length bs) 2) (outside (task_count bs) 1 64) (outside (processor_count bs) 2 16) (ltb 0 (spare_bits bs)) (not (eqb (length bs) (2 + 11 * task_count bs)))
  where
    number : Bool → Bool → Bool → Bool → Bool → ℕ
    number b1 b2 b3 b4 b5 = cond b1 1 (cond b2 2 (cond b3 3 (cond b4 4 (cond b5 5 0))))

    go : (b1 b2 b3 b4 b5 : Bool) → 0 < number b1 b2 b3 b4 b5 → number_of (header_refusal (number b1 b2 b3 b4 b5)) ≡ number b1 b2 b3 b4 b5
    go true b2 b3 b4 b5 h = refl
    go false true b3 b4 b5 h = refl
    go false false true b4 b5 h = refl
    go false false false true b5 h = refl
    go false false false false true h = refl
    go false false false false false h = absurd (omega arith)

-- a reading of number 0 is its table
pub number_none : (r : Result Table Refusal) → number_in r ≡ 0 → r ≡ Ok (table_in r)
number_none (Ok t) h = refl
number_none (Err e) h = absurd (omega (arith, number_some e))

-- a header is read where none of 1 to 5 refuses it
pub header_read : (bs : List ℕ) (h : Header) → header_of bs ≡ Ok h → (header_number bs ≡ 0) × (h ≡ header_in bs)
header_read bs h = go (ltb 0 (header_number bs)) refl
  where
    go : (b : Bool) → ltb 0 (header_number bs) ≡ b → cond b (Err (header_refusal (header_number bs))) (Ok (header_in bs)) ≡ Ok h → (header_number bs ≡ 0) × (h ≡ header_in bs)
    go true e q = clash cc
    go false e q = (omega (arith, ltb-false 0 (header_number bs) e), cc)

-- and else refused by the lowest
pub header_refused : (bs : List ℕ) (e : Refusal) → header_of bs ≡ Err e → (0 < header_number bs) × (e ≡ header_refusal (header_number bs))
header_refused bs x = go (ltb 0 (header_number bs)) refl
  where
    go : (b : Bool) → ltb 0 (header_number bs) ≡ b → cond b (Err (header_refusal (header_number bs))) (Ok (header_in bs)) ≡ Err x → (0 < header_number bs) × (x ≡ header_refusal (header_number bs))
    go true e q = (ltb-true 0 (header_number bs) e, cc)
    go false e q = clash cc

module _ (bs : List ℕ) where
  -- a refused row has its fault's number
  fault_row : (f : RowFault) (i : ℕ) → row_of (row_bytes bs i) ≡ Err f → row_number bs i ≡ fault_number f
  unfolding row_number row_number_of
  fault_row f i h = rw h refl

  -- a good row has none
  pub good_row : (t : Task) (i : ℕ) → row_of (row_bytes bs i) ≡ Ok t → row_number bs i ≡ 0
  unfolding row_number row_number_of
  good_row t i h = rw h refl

  -- the first i rows are good
  abbrev pub Read : ℕ → Type 0
  Read i = (k : ℕ) → k < i → row_number bs k ≡ 0

  -- a bad row behind good ones is the refusal
  pub rows_refused : (n m : ℕ) (npp : Bool) (i : ℕ) (f : RowFault) → i < n → Read i → row_of (row_bytes bs i) ≡ Err f → rows_reading bs n m npp ≡ refusal (BadRow f (i + 1))
  unfolding rows_reading first_bad
  rows_refused n m npp i f l good bad =
      let r : row_number bs i ≡ fault_number f = fault_row f i bad in
      let e : first_bad bs n ≡ i = first_bad_lem n (row_number bs) i l good (omega (arith, fault_some f)) in
      rw (e, lt-ltb i n l, r, fault_back f)

  -- good rows are the table
  pub rows_accepted : (n m : ℕ) (npp : Bool) → Read n → rows_reading bs n m npp ≡ accepted (table_of bs n m npp)
  unfolding rows_reading first_bad
  rows_accepted n m npp good =
      let e : first_bad bs n ≡ n = none_bad n (row_number bs) good in
      rw (e, le-ltb n n (omega arith))

  -- a column of no row is blank
  pub column_none : (f : Task → ℕ) → column bs 0 f ≡ blank 64 0
  unfolding column
  column_none f = filled_none 64 0 (λ k. f (task_of (row_bytes bs k)))

  -- one more row in a column
  pub column_more : (f : Task → ℕ) (i : ℕ) → i < 64 → (xs : List ℕ) (t : Task) → xs ≡ column bs i f → t ≡ task_of (row_bytes bs i) → set xs i (f t) ≡ column bs (i + 1) f
  unfolding column
  column_more f i l xs t e h =
      ap (λ (ys : List ℕ). set ys i (f t)) e
      ∙ ap (λ (u : Task). set (column bs i f) i (f u)) h
      ∙ filled_more 64 0 (λ k. f (task_of (row_bytes bs k))) i l

-- a header that is refused is the reading's refusal
pub refused_reading : (bs : List ℕ) (e : Refusal) → header_of bs ≡ Err e → reading_of bs ≡ refusal e
unfolding reading_of
refused_reading bs e h =
    let r = header_refused bs e h in
    rw (lt-ltb 0 (header_number bs) r.0) (ap (λ (x : Refusal). refusal x) (sym r.1))

-- and one that is read leaves it to the rows
pub rows_read : (bs : List ℕ) (h : Header) → header_of bs ≡ Ok h → GoodHeader bs × (h ≡ header_in bs) × (reading_of bs ≡ rows_reading bs h.n h.m h.npp)
unfolding reading_of
rows_read bs h e =
    let r = header_read bs h e in
    (header_good bs r.0, r.1, rw (le-ltb 0 (header_number bs) (omega arith), r.1) refl)
