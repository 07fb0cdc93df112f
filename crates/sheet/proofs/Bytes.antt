-- Laws of numbers as bytes.
use Prim.Native.Nat.{ℕ, zero, suc, ◌+◌, ◌-◌, ◌*◌, ◌/◌, ◌%◌, ◌^◌, ◌<◌}
use mathlib.Core.Path.{◌≡◌, refl, sym, ◌∙◌, ap}
use mathlib.Core.List.{List, ◌++◌, append-nil, append_assoc}
use native.Mathlib.Omega.{arith}
use native.Mathlib.Nat.{add-zero, add-suc, pow-suc, mul_assoc}
use lib.ListN.{length, set, length-append}
use lib.Seq.{sets}
use Rattle.lists.proofs.Sets.{sets_last}
use Rattle.sheet.specs.Fields.{bytes_of}

-- so many bytes
pub length-bytes : (count x : ℕ) → length (bytes_of count x) ≡ count
unfolding bytes_of
length-bytes zero x = refl
length-bytes (suc count) x = simp length-append (omega (arith, length-bytes count (x / 256)))

-- a number in two words, the higher one first
pub bytes-append : (a b x y : ℕ) → y < 256 ^ b → bytes_of (a + b) (x * 256 ^ b + y) ≡ bytes_of a x ++ bytes_of b y
unfolding bytes_of
bytes-append a zero x y h =
    let e : x * 256 ^ 0 + y ≡ x = omega arith in
    rw (add-zero a, append-nil, e)
bytes-append a (suc b) x y h =
    let p : 256 ^ suc b ≡ 256 ^ b * 256 = pow-suc 256 b in
    let m : x * 256 ^ suc b ≡ x * 256 ^ b * 256 = ap (λ (k : ℕ). x * k) p ∙ sym (mul_assoc x (256 ^ b) 256) in
    let q : (x * 256 ^ suc b + y) / 256 ≡ x * 256 ^ b + y / 256 = omega arith in
    let r : (x * 256 ^ suc b + y) % 256 ≡ y % 256 = omega arith in
    rw (add-suc a b, q, r, bytes-append a b x (y / 256) (omega arith), append_assoc)

-- the last byte of a word may be stored first
pub sets-bytes : (l : List ℕ) (at count x : ℕ) → 0 < count → sets (set l (at + (count - 1)) (x % 256)) at (bytes_of (count - 1) (x / 256)) ≡ sets l at (bytes_of count x)
unfolding bytes_of
sets-bytes l at zero x h = absurd (omega arith)
sets-bytes l at (suc count) x h =
    let e : suc count - 1 ≡ count = omega arith in
    let n : length (bytes_of count (x / 256)) ≡ count = length-bytes count (x / 256) in
    rw (e, sets_last l at (bytes_of count (x / 256)) (x % 256), n)
