-- `bits::word` meets its contract. The loop's invariant: r is the value of the bytes passed.
use Prim.Native.Nat.{◌*◌}
use mathlib.Core.Path.{◌≡◌}
use Rattle.bits.specs.Bits.{bits_value}
use Rattle.bits.proofs.word.Given as goal

abbrev pub invariant-loop-byte : goal.invariant-loop-byte
invariant-loop-byte l = l.r ≡ bits_value l.bytes (8 * l.at) (8 * l.byte-index)
