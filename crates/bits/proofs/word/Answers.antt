-- `bits::word` meets its contract. The loop's invariant: r is the value of the bytes passed.
use Prim.Native.Nat.{ℕ, ◌+◌, ◌-◌, ◌*◌, ◌≤◌, ◌<◌}
use mathlib.Core.Path.{◌≡◌, ◌∙◌}
use mathlib.Core.List.{List}
use native.Mathlib.Omega.{arith}
use borrow.Author.Rules.{rules}
use lib.ListN.{length, take, drop, get_or, length-take, length-drop}
use lib.Seq.{get_or-take, get_or-drop}
use Rattle.bits.specs.Bits.{bits_value}
use Rattle.bits.proofs.Laws.{bits_lt, bits_under, bits_byte}
use Rattle.bits.proofs.word.Goals as goal

-- the bytes of the word, and each of them
part-length : (bs : List ℕ) (at count : ℕ) → at + count ≤ length bs → length (take (at + count - at) (drop at bs)) ≡ count
part-length bs at count h = omega (arith, length-take (at + count - at) (drop at bs), length-drop at bs)

part_at : (bs : List ℕ) (at count i : ℕ) → i < count → get_or (take (at + count - at) (drop at bs)) i 0 ≡ get_or bs (at + i) 0
part_at bs at count i h = get_or-take (at + count - at) (drop at bs) i 0 (omega arith) ∙ get_or-drop at bs i 0

pub loop-byte-init : goal.loop-byte-init
unfolding bits_value
loop-byte-init c = search rules

pub overflow_mul-r : goal.overflow_mul-r
overflow_mul-r c =
    let a = c.args in
    let n = part-length a.bytes.now a.at a.count (omega arith) in
    omega (arith, bits_under a.bytes.now (8 * a.at) (8 * c.loop-byte.byte-index) 56 (omega arith))

pub overflow_add-r : goal.overflow_add-r
overflow_add-r c =
    let a = c.args in
    let n = part-length a.bytes.now a.at a.count (omega arith) in
    omega (arith, bits_under a.bytes.now (8 * a.at) (8 * c.loop-byte.byte-index) 56 (omega arith), part_at a.bytes.now a.at a.count c.loop-byte.byte-index (omega arith), c.type_inv.bytes (a.at + c.loop-byte.byte-index))

pub loop-byte-preserved : goal.loop-byte-preserved
loop-byte-preserved c =
    let a = c.args in
    let i = c.loop-byte.byte-index in
    let n = part-length a.bytes.now a.at a.count (omega arith) in
    omega (arith, bits_byte a.bytes.now a.at i, part_at a.bytes.now a.at a.count i (omega arith), c.type_inv.bytes (a.at + i))

pub returns : goal.returns
returns c =
    let a = c.args in
    let n = part-length a.bytes.now a.at a.count (omega arith) in
    let e : c.loop-byte.byte-index ≡ a.count = omega arith in
    let f : c.loop-byte.r ≡ bits_value a.bytes.now (8 * a.at) (8 * a.count) = rw e at c.loop-byte.invariant in
    (f, rw f (bits_lt _ _ _))
