-- The plan's bytes: "12 + 9n bytes".
use Rattle.std.specs.Prelude.{ℕ, ◌+◌, ◌<◌, List, [], ◌∷◌, ◌++◌, get_or}
use Rattle.lists.specs.Tab.{tab, joined}
use Rattle.sheet.specs.Fields.{Field, packed}

-- so many bits for a number
abbrev pub field : ℕ → ℕ → Field
field width value = record { width = width; value = value }

-- "Header: n (7), m (5), s (4)."
unfoldable pub header_bytes : ℕ → ℕ → ℕ → List ℕ
header_bytes n m s = packed (field 7 n ∷ field 5 m ∷ field 4 s ∷ [])

-- fields of 5 bits: the processors of so many resources from `ahead + 1` on
unfoldable pub processor_fields : List ℕ → ℕ → ℕ → List Field
processor_fields serves ahead count = tab count (λ r. field 5 (get_or serves (ahead + r + 1) 0))

-- "Then 16 fields of 5 bits: the processor of resources 1 to 16, 0 if unused."
unfoldable pub resource_bytes : List ℕ → List ℕ
resource_bytes serves = packed (processor_fields serves 0 16)

-- "Then 72 bits for each task: application processor (5), D1, S, D2 (20 each), 7 zero bits."
unfoldable pub task_bytes : ℕ → ℕ → ℕ → ℕ → List ℕ
task_bytes processor d1 section d2 = packed (field 5 processor ∷ field 20 d1 ∷ field 20 section ∷ field 20 d2 ∷ field 7 0 ∷ [])

-- the bytes of the task in row k
unfoldable pub task_of : List ℕ → List ℕ → List ℕ → List ℕ → ℕ → List ℕ
task_of processors d1s sections d2s k = task_bytes (get_or processors k 0) (get_or d1s k 0) (get_or sections k 0) (get_or d2s k 0)

-- a plan: header, resources, tasks
unfoldable pub plan_bytes : ℕ → ℕ → ℕ → List ℕ → List ℕ → List ℕ → List ℕ → List ℕ → List ℕ
plan_bytes n m s serves processors d1s sections d2s =
    header_bytes n m s ++ (resource_bytes serves ++ joined n (task_of processors d1s sections d2s))

-- processors that can be said in 5 bits
abbrev pub ServesFit : List ℕ → Type 0
ServesFit serves = (r : ℕ) → r < 17 → get_or serves r 0 < 32

-- processors of the first n tasks that can be said in 5 bits, and bounds that can be said in 20
abbrev pub TasksFit : ℕ → List ℕ → List ℕ → List ℕ → List ℕ → Type 0
TasksFit n processors d1s sections d2s =
    (k : ℕ) → k < n → (get_or processors k 0 < 32) × (get_or d1s k 0 < 1048576) × (get_or sections k 0 < 1048576) × (get_or d2s k 0 < 1048576)
