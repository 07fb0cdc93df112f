-- `table::read_rows` meets its contract. The loop's invariant: the first i rows are good, and the columns hold them.
use Prim.Native.Nat.{ℕ}
use mathlib.Core.List.{List}
use mathlib.Core.Path.{◌≡◌}
use Rattle.table.specs.Table.{column, blank_of}
use Rattle.table.specs.declared.Header.{Header}
use Rattle.table.specs.declared.Table.{Table}
use Rattle.table.proofs.Laws.{Read}
use Rattle.table.proofs.read_rows.Given as goal

-- a table whose columns hold the first i rows
abbrev pub rows_in : List ℕ → Header → ℕ → Table
rows_in bs h i =
    record (blank_of h) {
      period = column bs i (λ t. t.period);
      c1 = column bs i (λ t. t.c1);
      a = column bs i (λ t. t.a);
      c2 = column bs i (λ t. t.c2);
      resource = column bs i (λ t. t.resource);
    }

abbrev pub invariant-loop-i : goal.invariant-loop-i
invariant-loop-i l = record { good : Read l.bytes l.i-counter; held : l.t ≡ rows_in l.bytes l.fn.h l.i-counter }
