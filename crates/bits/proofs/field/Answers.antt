-- `bits::field` meets its contract: of the bits of the bytes that it lies in, a field is those between the bits ahead and behind.
use Prim.Native.Nat.{ℕ, ◌+◌, ◌-◌, ◌*◌, ◌/◌, ◌%◌, ◌^◌, ◌≤◌}
use mathlib.Core.Path.{◌≡◌, ◌∙◌, ap}
use mathlib.Core.List.{List}
use native.Mathlib.Omega.{arith}
use native.Mathlib.Nat.{one-mul}
use lib.Pow as Pow
use Rattle.bits.specs.Bits.{bits_value}
use Rattle.bits.proofs.Laws.{bits_lt, bits_within}
use Rattle.bits.proofs.field.Goals as goal

-- so many values have w bits
size : (w : ℕ) → w ≤ 20 → 1 * 2 ^ w % 2 ^ 64 ≡ 2 ^ w
size w h = Pow.shl_exact 1 w 64 (omega arith) (omega arith) ∙ one-mul (2 ^ w)

-- the field of w bits at place `at`, out of the value x of the bytes that it lies in
cut : (bs : List ℕ) (at w x : ℕ) → w ≤ 20 → x ≡ bits_value bs (8 * (at / 8)) (8 * ((at + w + 7) / 8 - at / 8)) → x / 2 ^ (8 * ((at + w + 7) / 8) - (at + w)) % (1 * 2 ^ w % 2 ^ 64) ≡ bits_value bs at w
cut bs at w x h e =
    let behind = 8 * ((at + w + 7) / 8) - (at + w) in
    let n : 8 * ((at + w + 7) / 8 - at / 8) ≡ at % 8 + w + behind = omega arith in
    let p : 8 * (at / 8) + at % 8 ≡ at = omega arith in
    rw (size w h, e, n) (bits_within bs (8 * (at / 8)) (at % 8) w behind ∙ ap (λ (k : ℕ). bits_value bs k w) p)

pub returns : goal.returns
returns c =
    let a = c.args in
    let f = cut a.bytes.now a.at a.width c.word-w.result (omega arith) c.word-w.ensures.0 in
    (f, rw f (bits_lt a.bytes.now a.at a.width))
