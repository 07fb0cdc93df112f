-- What the machine reads of a table and its plan.
use Rattle.std.specs.Prelude.{ℕ, cond, List, [], ◌∷◌, get_or}
use Rattle.std.proofs.lemmas.List.Edits.{sets}
use Rattle.lists.specs.Tab.{joined, blank}
use Rattle.table.specs.declared.Table.{Table}
use Rattle.plan.specs.declared.Plan.{Plan}
use Rattle.plan.specs.Tasks.{of_resource}
pub use Rattle.machine.specs.declared.Chart.{Chart}

-- a chart of these
abbrev pub chart : ℕ → ℕ → List ℕ → List ℕ → List ℕ → List ℕ → Chart
chart n m bounds homes ranks tops = record { n = n; m = m; bounds = bounds; homes = homes; rank = ranks; top = tops }

-- three columns side by side, three numbers for each of n rows, in an array of 192 places
unfoldable pub threes : List ℕ → List ℕ → List ℕ → ℕ → List ℕ
threes xs ys zs n = sets (blank 192 0) 0 (joined n (λ i. get_or xs i 0 ∷ get_or ys i 0 ∷ get_or zs i 0 ∷ []))

-- the processor of each row's section
abbrev pub locks_of : Table → Plan → List ℕ
locks_of t p = of_resource p.serves t.resource t.n

-- the ceiling of each row's resource; under NPP a held resource stops every start, as a ceiling above all ranks does
unfoldable pub tops_of : Table → List ℕ
tops_of t = cond t.npp (blank 64 0) (of_resource t.ceiling t.resource t.n)

-- the chart of a table and its plan
unfoldable pub chart_of : Table → Plan → Chart
chart_of t p =
    chart t.n t.m
    (threes p.d1 p.section p.d2 t.n)
    (threes p.processor (locks_of t p) p.processor t.n)
    t.rank
    (tops_of t)
