-- Laws of the value of a bit field: it is bounded by its width, and is cut out of the value of whole bytes.
use Prim.Native.Nat.{ℕ, zero, suc, ◌+◌, ◌-◌, ◌*◌, ◌/◌, ◌%◌, ◌^◌, ◌<◌, ◌≤◌}
use mathlib.Core.Path.{◌≡◌, refl, sym, ◌∙◌, ap}
use mathlib.Core.List.{List, ◌++◌}
use native.Mathlib.Omega.{arith}
use native.Mathlib.Nat.{add-zero, add-suc, pow-suc, mod-one, mul_assoc, lt_of_lt_of_le}
use lib.ListN.{length, get_or, get_or-append}
use lib.Seq.{get_or-append-add}
use lib.Pow as Pow
use Rattle.bits.specs.Bits.{bits_value}

-- a value of w bits is below 2 ^ w
pub bits_lt : (bs : List ℕ) (at w : ℕ) → bits_value bs at w < 2 ^ w
unfolding bits_value
bits_lt bs at zero = omega arith
bits_lt bs at (suc w) =
    let h : bits_value bs at w < 2 ^ w = bits_lt bs at w in rw pow-suc (omega arith)

-- and below any higher power
pub bits_under : (bs : List ℕ) (at w k : ℕ) → w ≤ k → bits_value bs at w < 2 ^ k
bits_under bs at w k h = lt_of_lt_of_le (bits_lt bs at w) (Pow.pow_mono h)

-- v bits, and w behind them
pub bits_join : (bs : List ℕ) (at v w : ℕ) → bits_value bs at (v + w) ≡ bits_value bs at v * 2 ^ w + bits_value bs (at + v) w
unfolding bits_value
bits_join bs at v zero = rw (add-zero v) (omega arith)
bits_join bs at v (suc w) =
    let x = bits_value bs at v in
    let m : x * 2 ^ suc w ≡ x * 2 ^ w * 2 = ap (λ (k : ℕ). x * k) (pow-suc 2 w) ∙ sym (mul_assoc x (2 ^ w) 2) in
    let p : at + (v + w) ≡ at + v + w = omega arith in
    rw (add-suc v w, bits_join bs at v w, p, m) (omega arith)

-- of v + w bits, the first v
pub bits_first : (bs : List ℕ) (at v w : ℕ) → bits_value bs at (v + w) / 2 ^ w ≡ bits_value bs at v
bits_first bs at v w = rw (bits_join bs at v w) (Pow.high (bits_value bs at v) w (bits_lt bs (at + v) w))

-- and the last w
pub bits_last : (bs : List ℕ) (at v w : ℕ) → bits_value bs at (v + w) % 2 ^ w ≡ bits_value bs (at + v) w
bits_last bs at v w = rw (bits_join bs at v w) (Pow.low (bits_value bs at v) w (bits_lt bs (at + v) w))

-- of u + v + w bits, the v in the middle
pub bits_within : (bs : List ℕ) (at u v w : ℕ) → bits_value bs at (u + v + w) / 2 ^ w % 2 ^ v ≡ bits_value bs (at + u) v
bits_within bs at u v w = rw (bits_first bs at (u + v) w) (bits_last bs at u v)

-- the first w bits of a byte
byte_first : (bs : List ℕ) (i w : ℕ) → w ≤ 8 → bits_value bs (8 * i) w ≡ get_or bs i 0 / 2 ^ (8 - w) % 2 ^ w
unfolding bits_value
byte_first bs i zero h = sym (mod-one (get_or bs i 0 / 2 ^ 8))
byte_first bs i (suc w) h =
    let x = get_or bs i 0 / 2 ^ (7 - w) in
    let a : 8 - w ≡ 7 - w + 1 = omega arith in
    let b : 8 - suc w ≡ 7 - w = omega arith in
    let c : w + 1 ≡ suc w = omega arith in
    let d : (8 * i + w) / 8 ≡ i = omega arith in
    let m : (8 * i + w) % 8 ≡ w = omega arith in
    let e : x / 2 % 2 ^ w * 2 + x % 2 ≡ x % 2 ^ suc w = sym (Pow.mod-pow-add x w 1) ∙ ap (λ (k : ℕ). x % 2 ^ k) c in
    rw (byte_first bs i w (omega arith), a, b, d, m, sym (Pow.shr-shr (get_or bs i 0) (7 - w) 1)) e

-- one byte more
pub bits_byte : (bs : List ℕ) (at i : ℕ) → bits_value bs (8 * at) (8 * (i + 1)) ≡ bits_value bs (8 * at) (8 * i) * 256 + get_or bs (at + i) 0 % 256
bits_byte bs at i =
    let n : 8 * (i + 1) ≡ 8 * i + 8 = omega arith in
    let p : 8 * at + 8 * i ≡ 8 * (at + i) = omega arith in
    rw (n, bits_join bs (8 * at) (8 * i) 8, p, byte_first bs (at + i) 8 (omega arith)) (omega arith)

-- bits of the first of two lists of bytes
pub bits_ahead : (u v : List ℕ) (at w : ℕ) → at + w ≤ 8 * length u → bits_value (u ++ v) at w ≡ bits_value u at w
unfolding bits_value
bits_ahead u v at zero h = refl
bits_ahead u v at (suc w) h = rw (bits_ahead u v at w (omega arith), get_or-append u v 0 ((at + w) / 8) (omega arith))

-- bits of the second, behind n bytes
pub bits_behind : (u v : List ℕ) (n at w : ℕ) → length u ≡ n → bits_value (u ++ v) (8 * n + at) w ≡ bits_value v at w
unfolding bits_value
bits_behind u v n at zero h = refl
bits_behind u v n at (suc w) h =
    let d : (8 * n + at + w) / 8 ≡ length u + (at + w) / 8 = omega arith in
    let m : (8 * n + at + w) % 8 ≡ (at + w) % 8 = omega arith in
    rw (bits_behind u v n at w h, d, m, get_or-append-add u v ((at + w) / 8) 0)
