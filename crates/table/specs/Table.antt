-- What the bytes of a table say: the table, or the one refusal 1 to 9 and the row that it names.
use Rattle.std.specs.Prelude.{ℕ, ◌+◌, ◌*◌, List, Bool, false, cond, not, length, take, drop, ltb, eqb, Result, Ok, Err, Option, Some, None}
use Rattle.bits.specs.Bits.{bits_value}
use Rattle.lists.specs.Tab.{blank, filled}
use Rattle.lists.specs.First.{first}
use Rattle.rank.specs.Rank.{ranks_of}
use Rattle.rank.specs.Ceiling.{ceilings_of}
use Rattle.table.specs.Row.{outside, task_of, row_of, fault_number, number_of as row_number_of}
use Rattle.table.specs.declared.Task.{Task}
use Rattle.table.specs.declared.Table.{Table}
use Rattle.table.specs.declared.Header.{Header}
use Rattle.table.specs.declared.RowFault.{RowFault}
use Rattle.table.specs.declared.RowFault.TheVariants.{BadPeriod, BadResource, Disagree, BadSum}
use Rattle.table.specs.declared.Refusal.{Refusal}
use Rattle.table.specs.declared.Refusal.TheVariants.{TooShort, BadRows, BadProcessors, SpareBits, BadLength, BadRow}

-- "Header, 16 bits: task count n (7), processor count m (5), protocol (1: 0 is PCP, 1 is NPP), three zero bits."
abbrev pub task_count : List ℕ → ℕ
task_count bs = bits_value bs 0 7

abbrev pub processor_count : List ℕ → ℕ
processor_count bs = bits_value bs 7 5

abbrev pub protocol_bit : List ℕ → ℕ
protocol_bit bs = bits_value bs 12 1

abbrev pub spare_bits : List ℕ → ℕ
spare_bits bs = bits_value bs 13 3

-- "Numbers for no", 1 to 5: the lowest that is given, or 0
unfoldable pub header_number : List ℕ → ℕ
header_number bs =
    cond (ltb (length bs) 2) 1
    (cond (outside (task_count bs) 1 64) 2
    (cond (outside (processor_count bs) 2 16) 3
    (cond (ltb 0 (spare_bits bs)) 4
    (cond (not (eqb (length bs) (2 + 11 * task_count bs))) 5 0))))

-- the refusal with such a number
unfoldable pub header_refusal : ℕ → Refusal
header_refusal number =
    cond (eqb number 1) TooShort
    (cond (eqb number 2) BadRows
    (cond (eqb number 3) BadProcessors
    (cond (eqb number 4) SpareBits
    BadLength)))

-- the counts and the protocol in the header
abbrev pub header_in : List ℕ → Header
header_in bs = record { n = task_count bs; m = processor_count bs; npp = eqb (protocol_bit bs) 1 }

-- the header, or its refusal
abbrev pub header_of : List ℕ → Result Header Refusal
header_of bs =
    cond (ltb 0 (header_number bs))
    (Err (header_refusal (header_number bs)))
    (Ok (header_in bs))

-- "each row is read from its own eleven bytes"; k counts from 0
abbrev pub row_bytes : List ℕ → ℕ → List ℕ
row_bytes bs k = take 11 (drop (2 + 11 * k) bs)

-- the refusal 6 to 9 of row k, or 0
unfoldable pub row_number : List ℕ → ℕ → ℕ
row_number bs k = row_number_of (row_of (row_bytes bs k))

-- the first bad row of n, or n
unfoldable pub first_bad : List ℕ → ℕ → ℕ
first_bad bs n = first n (λ k. ltb 0 (row_number bs k))

-- a field of each of n rows, in an array of 64 places, and 0 past row n
unfoldable pub column : List ℕ → ℕ → (Task → ℕ) → List ℕ
column bs n field = filled 64 0 n (λ k. field (task_of (row_bytes bs k)))

-- a table from its columns, with the rank of each row and the ceiling of each resource
unfoldable pub ranked : ℕ → ℕ → Bool → List ℕ → List ℕ → List ℕ → List ℕ → List ℕ → Table
ranked n m npp period c1 a c2 resource =
    record {
      n = n;
      m = m;
      npp = npp;
      period = period;
      c1 = c1;
      a = a;
      c2 = c2;
      resource = resource;
      rank = ranks_of period n;
      ceiling = ceilings_of resource (ranks_of period n) n;
    }

-- the table of n rows
unfoldable pub table_of : List ℕ → ℕ → ℕ → Bool → Table
table_of bs n m npp =
    ranked n m npp
    (column bs n (λ t. t.period))
    (column bs n (λ t. t.c1))
    (column bs n (λ t. t.a))
    (column bs n (λ t. t.c2))
    (column bs n (λ t. t.resource))

-- a table of zeros
abbrev pub no_table : Table
no_table =
    record {
      n = 0;
      m = 0;
      npp = false;
      period = blank 64 0;
      c1 = blank 64 0;
      a = blank 64 0;
      c2 = blank 64 0;
      resource = blank 64 0;
      rank = blank 64 0;
      ceiling = blank 17 0;
    }

-- a table of a header without rows
abbrev pub blank_of : Header → Table
blank_of h = record no_table { n = h.n; m = h.m; npp = h.npp }

-- "Numbers for no", 1 to 9
unfoldable pub number_of : Refusal → ℕ
number_of TooShort = 1
number_of BadRows = 2
number_of BadProcessors = 3
number_of SpareBits = 4
number_of BadLength = 5
number_of (BadRow f row) = fault_number f

-- the row that a refusal names, counted from 1; the header's name none
unfoldable pub names_of : Refusal → ℕ
names_of TooShort = 0
names_of BadRows = 0
names_of BadProcessors = 0
names_of SpareBits = 0
names_of BadLength = 0
names_of (BadRow f row) = row

-- a refusal in place of the table
abbrev pub refusal : Refusal → Result Table Refusal
refusal e = Err e

-- a table that is not refused
abbrev pub accepted : Table → Result Table Refusal
accepted t = Ok t

-- the number of a reading; 0 is no refusal
abbrev pub number_in : Result Table Refusal → ℕ
number_in (Ok t) = 0
number_in (Err e) = number_of e

-- the row that it names, or 0
abbrev pub names_in : Result Table Refusal → ℕ
names_in (Ok t) = 0
names_in (Err e) = names_of e

-- its table: "All else that a refused call returns is 0"
abbrev pub table_in : Result Table Refusal → Table
table_in (Ok t) = t
table_in (Err e) = no_table

-- the refusal of a reading by itself
abbrev pub refusal_of : Result Table Refusal → Option Refusal
refusal_of (Ok t) = None
refusal_of (Err e) = Some e

-- the fault with a number of 6 to 9
unfoldable pub fault_with : ℕ → RowFault
fault_with number =
    cond (eqb number 6) BadPeriod
    (cond (eqb number 7) BadResource
    (cond (eqb number 8) Disagree
    BadSum))

-- the rows behind a good header: "for rows .. the first bad one, and in it the lowest"; rows count from 1
unfoldable pub rows_reading : List ℕ → ℕ → ℕ → Bool → Result Table Refusal
rows_reading bs n m npp =
    cond (ltb (first_bad bs n) n)
    (refusal (BadRow (fault_with (row_number bs (first_bad bs n))) (first_bad bs n + 1)))
    (accepted (table_of bs n m npp))

-- what any list of bytes says: "The lowest number wins"
unfoldable pub reading_of : List ℕ → Result Table Refusal
reading_of bs =
    cond (ltb 0 (header_number bs))
    (refusal (header_refusal (header_number bs)))
    (rows_reading bs (task_count bs) (processor_count bs) (eqb (protocol_bit bs) 1))
