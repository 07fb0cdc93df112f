-- The paper's listing of P, letter by letter, and the lines of refusals: a table of cases, each computed by the definitions.
use Prim.Native.Nat.{ℕ}
use Prim.Native.Char.{code}
use Prim.Native.String.{String, len, char_at}
use mathlib.Core.Path.{◌≡◌, refl}
use mathlib.Core.List.{List, [], ◌∷◌, ◌++◌}
use Rattle.lists.specs.Tab.{tab, joined}
use Rattle.table.specs.Table.{number_of, names_of, reading_of}
use Rattle.table.proofs.Given.{PCP, P, Q, written, hex}
use Rattle.plan.specs.Trial.{number_of as number_of_plan, names_of as names_of_plan, mark_of, value_of}
use Rattle.plan.proofs.Given.{planning}
use Rattle.listing.specs.Text.{spelled, decimal, spaced, line}
use Rattle.listing.specs.Listing.{refused_line, plan_line, resource_line, resource_lines, task_line, plan_text, outcome_text, listing_of}

-- the bytes of lines: the letters of each, and a line feed behind them
abbrev letters : String → List ℕ
letters s = tab (len s) (λ i. code (char_at s i))

abbrev bytes_of : List String → List ℕ
bytes_of [] = []
bytes_of (s ∷ ss) = letters s ++ (10 ∷ bytes_of ss)

-- the bytes of a table, and the lines that the listing program prints for it
abbrev Case : Type 0
Case = List ℕ × List String

-- every case of a table holds
abbrev All : List Case → Type 0
All [] = Unit {0}
All ((table, lines) ∷ cs) = (listing_of (reading_of table) ≡ bytes_of lines) × All cs

-- the paper's figures that are printed
cases : List Case
cases =
    -- P under PCP: "For P it prints exactly", with 4 for row 1's section
    (written (P PCP), "plan 3 3 1" ∷ "resource 1 1" ∷ "resource 2 1" ∷ "task 1 2 1 4 1" ∷ "task 2 2 4 5 4" ∷ "task 3 2 10 10 10" ∷ [])
    -- "m = 2, one row (1,1,0,0,0): s 0, processor 1, bounds 1, 0, 0": no resource is used
    ∷ (written (2, PCP, (1, 1, 0, 0, 0) ∷ []), "plan 1 2 0" ∷ "task 1 1 1 0 0" ∷ [])
    -- "Q: two rows (10,4,1,4,1), PCP, m = 2: refused 11, row 2, mark 2.", and "The listing's refused line ends with the value": 12
    ∷ (written (Q 2 4), "refused 11 2 2 12" ∷ [])
    -- "m = 2, two rows (4,0,3,0,1), PCP: 11, row 1, mark 1."; the value is 3 + 2
    ∷ (written (2, PCP, (4, 0, 3, 0, 1) ∷ (4, 0, 3, 0, 1) ∷ []), "refused 11 1 1 5" ∷ [])
    -- one row of period 1,000,001: "1,000,001 is refusal 6", "Mark is 0 but for 11", and the value is "0 for every other number"
    ∷ (hex "02 20|F4 24 10 00 01 00 00 00 00 00 00", "refused 6 1 0 0" ∷ [])
    -- a header for two rows, and no row behind it
    ∷ (hex "04 20", "refused 5 0 0 0" ∷ [])
    -- "Empty input is refusal 1."
    ∷ ([], "refused 1 0 0 0" ∷ [])
    ∷ []

-- the definitions compute all of them
every_case : All cases
unfolding cases planning number_of names_of number_of_plan names_of_plan mark_of value_of joined spelled decimal spaced line refused_line plan_line resource_line resource_lines task_line plan_text outcome_text listing_of
every_case = (refl, (refl, (refl, (refl, (refl, (refl, (refl, tt)))))))
