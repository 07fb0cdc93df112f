-- `sheet::put_word` meets its contract. The loop's invariant: with what is left of the number stored, all of it is.
use mathlib.Core.Path.{◌≡◌}
use lib.ListN.{length}
use lib.Seq.{sets}
use Rattle.sheet.specs.Fields.{bytes_of}
use Rattle.sheet.proofs.put_word.Given as goal

abbrev pub invariant-loop-left : goal.invariant-loop-left
invariant-loop-left l =
    (length l.part ≡ length l.initial.part) × (sets l.part l.at (bytes_of l.left l.rest) ≡ sets l.initial.part l.at (bytes_of l.count l.x))
