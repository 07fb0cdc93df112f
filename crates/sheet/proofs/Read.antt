-- Fields read back from their bytes, by the definition that reads a table's fields.
use Prim.Native.Nat.{ℕ, zero, suc, ◌+◌, ◌-◌, ◌*◌, ◌/◌, ◌%◌, ◌^◌, ◌≤◌, ◌<◌}
use mathlib.Core.Path.{◌≡◌, sym, ◌∙◌, ap}
use mathlib.Core.List.{List, [], ◌∷◌, ◌++◌}
use native.Mathlib.Omega.{arith}
use native.Mathlib.Nat.{mod-one, zero-add}
use lib.ListN.{get_or}
use lib.Seq.{get_or_at}
use lib.Pow as Pow
use Rattle.bits.specs.Bits.{bits_value}
use Rattle.bits.proofs.Laws.{bits_within, bits_byte, bits_ahead}
use Rattle.lists.specs.Tab.{tab}
use Rattle.lists.proofs.Tab.{tab_split}
use Rattle.sheet.specs.Sheet.{field}
use Rattle.sheet.specs.Fields.{Field, width, behind, Fit, more, bytes_of, packed}
use Rattle.sheet.proofs.Fields.{width-append, behind-append, behind_ahead, behind-lt, width_tab, fit_tab}
use Rattle.sheet.proofs.Bytes.{length-bytes}

-- all the bits of a number's bytes
word_of : (count x : ℕ) → bits_value (bytes_of count x) 0 (8 * count) ≡ x % 2 ^ (8 * count)
unfolding bits_value bytes_of
word_of zero x = sym (mod-one x)
word_of (suc count) x =
    let ahead = bytes_of count (x / 256) in
    let bs = ahead ++ (x % 256 ∷ []) in
    let n : 8 * suc count ≡ 8 * (count + 1) = omega arith in
    let d : 8 * (count + 1) ≡ 8 * count + 8 = omega arith in
    let up : bits_value bs 0 (8 * count) ≡ x / 256 % 2 ^ (8 * count) = bits_ahead ahead (x % 256 ∷ []) 0 (8 * count) (omega (arith, length-bytes count (x / 256))) ∙ word_of count (x / 256) in
    let low : get_or bs count 0 ≡ x % 256 = get_or_at ahead (x % 256) [] 0 count (length-bytes count (x / 256)) in
    rw n (bits_byte bs 0 count ∙ rw (up, zero-add count, low, d) (omega (arith, Pow.mod-pow-add x (8 * count) 8)))

-- bits of a number's bytes are bits of the number
bits_of : (count x at w : ℕ) → at + w ≤ 8 * count → bits_value (bytes_of count x) at w ≡ x / 2 ^ (8 * count - at - w) % 2 ^ w
bits_of count x at w h =
    let j = 8 * count - at - w in
    let n : at + w + j ≡ 8 * count = omega arith in
    let all : bits_value (bytes_of count x) 0 (at + w + j) ≡ x % 2 ^ (at + w + j) = rw n (word_of count x) in
    let part : x % 2 ^ (at + w + j) / 2 ^ j % 2 ^ w ≡ bits_value (bytes_of count x) at w = rw (all, zero-add at) at (bits_within (bytes_of count x) 0 at w j) in
    sym part ∙ ap (λ (y : ℕ). y % 2 ^ w) (Pow.field x (at + w) j) ∙ Pow.mod-mod-pow (x / 2 ^ j) at w

-- A field of a list of fields that fill their bytes is read back from its place. The fields ahead of it may say anything.
pub read_field : (fs : List Field) (f : Field) (gs : List Field) (count : ℕ) → width (fs ++ (f ∷ gs)) ≡ 8 * count → Fit (f ∷ gs)
    → bits_value (packed (fs ++ (f ∷ gs))) (width fs) f.width ≡ f.value
unfolding packed width behind
read_field fs f gs count whole (more small rest) =
    let w = f.width in
    let up = behind 0 fs * 2 ^ w + f.value in
    let n : width (fs ++ (f ∷ gs)) / 8 ≡ count = omega arith in
    let x : behind 0 (fs ++ (f ∷ gs)) ≡ up * 2 ^ width gs + behind 0 gs = behind-append 0 fs (f ∷ gs) ∙ behind_ahead up gs in
    let s : width (fs ++ (f ∷ gs)) ≡ width fs + (w + width gs) = width-append fs (f ∷ gs) in
    let k : 8 * count - width fs - w ≡ width gs = omega arith in
    rw (n, x, bits_of count (up * 2 ^ width gs + behind 0 gs) (width fs) w (omega arith), k, Pow.high up (width gs) (behind-lt rest)) (Pow.low (behind 0 fs) w small)

-- Of n fields of one width that fill their bytes, the one at place k is read back.
pub read_tab : (n w count : ℕ) (f : ℕ → ℕ) → w * n ≡ 8 * count → ((i : ℕ) → i < n → f i < 2 ^ w) → (k : ℕ) → k < n
    → bits_value (packed (tab n (λ i. field w (f i)))) (w * k) w ≡ f k
read_tab n w count f whole small k h =
    let g : ℕ → Field = λ i. field w (f i) in
    let rest = n - suc k in
    let gs = tab rest (λ i. g (suc k + i)) in
    let e : k + suc rest ≡ n = omega arith in
    let split : tab n g ≡ tab k g ++ (g k ∷ gs) = ap (λ (i : ℕ). tab i g) (sym e) ∙ tab_split k rest g in
    let all : width (tab k g ++ (g k ∷ gs)) ≡ 8 * count = ap width (sym split) ∙ width_tab n w f ∙ whole in
    let fit : Fit (g k ∷ gs) = more (small k h) (fit_tab rest w (λ i. f (suc k + i)) (λ i l. small (suc k + i) (omega arith))) in
    rw (split, sym (width_tab k w f)) (read_field (tab k g) (g k) gs count all fit)
