-- Worked examples, computed by the definitions: the paper's case P and the tables next to its limits, and tables that a wrong reader would read otherwise.
use mathlib.Core.Path.{◌≡◌, refl}
use mathlib.Core.List.{[], ◌∷◌}
use lib.ListN.{take}
use Rattle.table.specs.Table.{refusal, number_in, table_in, reading_of}
use Rattle.table.specs.declared.RowFault.TheVariants.{BadPeriod, BadResource, BadSum}
use Rattle.table.specs.declared.Refusal.TheVariants.{TooShort, BadRow}
use Rattle.table.proofs.Given.{PCP, NPP, Given, P, written, reading, ReadBack, hex}

-- under NPP, one row whose fields are all different
abbrev distinct : Given
distinct = (2, NPP, (9, 1, 2, 3, 4) ∷ [])

cases :
    -- P is read, with its rows in rank order (ranks count from 0), the ceiling of resource 1 at row 1 and of resource 2 at row 3
    (written (P PCP) ≡ hex "06 30|00 00 A0 00 01 00 00 20 00 01 08|00 01 40 00 02 00 00 30 00 02 08|00 02 80 00 04 00 00 50 00 04 10")
    × ReadBack (P PCP)
    × (number_in (reading (P PCP)) ≡ 0)
    × ((table_in (reading (P PCP))).n ≡ 3)
    × (take 3 (table_in (reading (P PCP))).rank ≡ 0 ∷ 1 ∷ 2 ∷ [])
    × (take 4 (table_in (reading (P PCP))).ceiling ≡ 64 ∷ 0 ∷ 2 ∷ 64 ∷ [])
    -- "T 1,000,000 passes, 1,000,001 is refusal 6. Empty input is refusal 1."
    × (number_in (reading_of (hex "02 20|F4 24 00 00 01 00 00 00 00 00 00")) ≡ 0)
    × (reading_of (hex "02 20|F4 24 10 00 01 00 00 00 00 00 00") ≡ refusal (BadRow BadPeriod 1))
    × (reading_of [] ≡ refusal TooShort)
    -- each field comes from its own bits
    × (written distinct ≡ hex "02 28|00 00 90 00 01 00 00 20 00 03 20")
    × ReadBack distinct
    -- row 1 is refused by 9 (its sum is above T), and row 2 by 6 (T is 0): the first bad row is named
    × (reading_of (hex "04 20|00 00 90 00 09 00 00 10 00 00 08|00 00 00 00 01 00 00 00 00 00 00") ≡ refusal (BadRow BadSum 1))
    -- one row that 6 and 7 both refuse (T is 0, resource 17): the lowest number wins
    × (reading_of (hex "02 20|00 00 00 00 01 00 00 00 00 00 88") ≡ refusal (BadRow BadPeriod 1))
    -- a single spare bit is set
    × (reading_of (hex "02 20|00 00 90 00 01 00 00 00 00 00 01") ≡ refusal (BadRow BadResource 1))
unfolding reading
cases = (refl, refl, refl, refl, refl, refl, refl, refl, refl, refl, refl, refl, refl, refl)
