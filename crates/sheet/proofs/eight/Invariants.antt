-- `sheet::eight` meets its contract. The loop's invariant: the word says the first fields.
use mathlib.Core.Path.{◌≡◌}
use Rattle.sheet.specs.Fields.{behind}
use Rattle.sheet.specs.Sheet.{processor_fields}
use Rattle.sheet.proofs.eight.Given as goal

abbrev pub invariant-loop-processor : goal.invariant-loop-processor
invariant-loop-processor l =
    l.word ≡ behind 0 (processor_fields l.serves l.ahead l.processor-index)
