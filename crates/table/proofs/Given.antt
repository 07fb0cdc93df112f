-- Tables given in numbers, as the paper gives its cases: their bytes, and what these are read as.
use Prim.Native.Nat.{ℕ, ◌+◌, ◌-◌, ◌*◌, ◌/◌, ◌%◌, ◌^◌}
use Prim.Native.Char.{code}
use Prim.Native.String.{String, len, char_at}
use Rattle.std.specs.Prelude.{Result}
use mathlib.Core.Path.{◌≡◌}
use mathlib.Core.Bool.{Bool, true, false, cond, xor}
use mathlib.Core.List.{List, [], ◌∷◌, ◌++◌}
use lib.ListN.{length, get_or}
use lib.Dec.{ltb}
use Rattle.bits.specs.Bits.{bits_value}
use Rattle.lists.specs.Tab.{tab, filled}
use Rattle.lists.specs.First.{first}
use Rattle.lists.specs.Count.{count}
use Rattle.rank.specs.Rank.{rank_of, ranks_of}
use Rattle.rank.specs.Ceiling.{ceiling_of, ceilings_of}
use Rattle.table.specs.declared.Table.{Table}
use Rattle.table.specs.declared.Refusal.{Refusal}
use Rattle.table.specs.Row.{outside, judged, row_of, fault_number, number_of as row_number_of}
use Rattle.table.specs.Table.{header_number, header_refusal, row_number, first_bad, column, ranked, table_of, table_in, fault_with, rows_reading, reading_of}

abbrev pub PCP : Bool
PCP = false

abbrev pub NPP : Bool
NPP = true

-- m, the protocol, and the rows (T, C1, A, C2, resource)
abbrev pub Given : Type 0
Given = ℕ × Bool × List (ℕ × ℕ × ℕ × ℕ × ℕ)

-- "Case P: m = 3; rows (T, C1, A, C2, resource) = (10,1,2,1,1), (20,2,3,2,1), (40,4,5,4,2)."
abbrev pub P : Bool → Given
P protocol = (3, protocol, (10, 1, 2, 1, 1) ∷ (20, 2, 3, 2, 1) ∷ (40, 4, 5, 4, 2) ∷ [])

-- "Q: two rows (10,4,1,4,1), PCP", on m processors, with this C2 in row 1
abbrev pub Q : ℕ → ℕ → Given
Q m c2 = (m, PCP, (10, 4, 1, c2, 1) ∷ (10, 4, 1, 4, 1) ∷ [])

-- a number in so many bytes, the most significant first
abbrev bytes : ℕ → ℕ → List ℕ
bytes n x = tab n (λ i. x / 256 ^ (n - 1 - i) % 256)

-- "Each task, 88 bits: period T (20), C1 (20), A (20), C2 (20), resource (5; 0 is none), three zero bits."
abbrev rows_written : List (ℕ × ℕ × ℕ × ℕ × ℕ) → List ℕ
rows_written [] = []
rows_written ((t, c1, a, c2, r) ∷ rows) =
    bytes 11 (((((t * 2 ^ 20 + c1) * 2 ^ 20 + a) * 2 ^ 20 + c2) * 2 ^ 5 + r) * 2 ^ 3) ++ rows_written rows

-- "Header, 16 bits: task count n (7), processor count m (5), protocol (1: 0 is PCP, 1 is NPP), three zero bits."
abbrev pub written : Given → List ℕ
written (m, npp, rows) = bytes 2 (((length rows * 2 ^ 5 + m) * 2 + cond npp 1 0) * 2 ^ 3) ++ rows_written rows

-- what these bytes are read as; whoever unfolds this unfolds all that reading computes by
unfoldable pub reading : Given → Result Table Refusal
unfolding bits_value tab filled first count rank_of ranks_of ceiling_of ceilings_of xor outside judged row_of fault_number row_number_of header_number header_refusal row_number first_bad column ranked table_of fault_with rows_reading reading_of
reading given = reading_of (written given)

-- the numbers of a table
abbrev pub numbers_of : Table → Given
numbers_of t =
    (t.m, t.npp, tab t.n (λ k. (get_or t.period k 0, get_or t.c1 k 0, get_or t.a k 0, get_or t.c2 k 0, get_or t.resource k 0)))

-- the bytes are read as the numbers that they were written from
abbrev pub ReadBack : Given → Type 0
ReadBack given = numbers_of (table_in (reading given)) ≡ given

-- bytes in hex, as the paper writes them: two digits each, and one character between two bytes
abbrev digit : ℕ → ℕ
digit c = cond (ltb c 65) (c - 48) (c - 55)

abbrev pub hex : String → List ℕ
hex s = tab ((len s + 1) / 3) (λ i. digit (code (char_at s (3 * i))) * 16 + digit (code (char_at s (3 * i + 1))))
