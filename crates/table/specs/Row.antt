-- What the eleven bytes w of a row say.
use Rattle.std.specs.Prelude.{ℕ, ◌+◌, List, Bool, cond, ◌||◌, ltb, Result, Ok, Err}
use Rattle.std.specs.Bool.{xor}
use Rattle.bits.specs.Bits.{bits_value}
use Rattle.table.specs.declared.Task.{Task}
use Rattle.table.specs.declared.RowFault.{RowFault}
use Rattle.table.specs.declared.RowFault.TheVariants.{BadPeriod, BadResource, Disagree, BadSum}

-- "Each task, 88 bits: period T (20), C1 (20), A (20), C2 (20), resource (5; 0 is none), three zero bits."
abbrev pub task_of : List ℕ → Task
task_of w =
    record {
      period = bits_value w 0 20;
      c1 = bits_value w 20 20;
      a = bits_value w 40 20;
      c2 = bits_value w 60 20;
      resource = bits_value w 80 5;
    }

-- its three spare bits
abbrev pub spare_of : List ℕ → ℕ
spare_of w = bits_value w 85 3

-- x is not one of lo to hi
unfoldable pub outside : ℕ → ℕ → ℕ → Bool
outside x lo hi = ltb x lo || ltb hi x

-- "Numbers for no", 6 to 9: the first case that the fields of a row are in, or the row
unfoldable pub judged : Task → ℕ → Result Task RowFault
judged t spare =
    cond (outside t.period 1 1000000) (Err BadPeriod)
    (cond (ltb 16 t.resource || ltb 0 spare) (Err BadResource)
    (cond (xor (ltb 0 t.a) (ltb 0 t.resource)) (Err Disagree)
    (cond (outside (t.c1 + t.a + t.c2) 1 t.period) (Err BadSum)
    (Ok t))))

-- the row in its eleven bytes, or the first case that it is in
unfoldable pub row_of : List ℕ → Result Task RowFault
row_of w = judged (task_of w) (spare_of w)

-- the paper's number for each fault
unfoldable pub fault_number : RowFault → ℕ
fault_number BadPeriod = 6
fault_number BadResource = 7
fault_number Disagree = 8
fault_number BadSum = 9

-- and for each answer; 0 is no refusal
unfoldable pub number_of : Result Task RowFault → ℕ
number_of (Ok t) = 0
number_of (Err f) = fault_number f
