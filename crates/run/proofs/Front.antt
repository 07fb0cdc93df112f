-- Lists that are written from the front on.
use Prim.Native.Nat.{ℕ, ◌+◌, ◌-◌, ◌*◌, ◌≤◌}
use mathlib.Core.Path.{◌≡◌, refl, sym, ap, ◌∙◌}
use mathlib.Core.List.{List, ◌++◌}
use native.Mathlib.Omega.{arith}
use native.Mathlib.Nat.{mul-add, mul-le-mul_left}
use lib.ListN.{length, drop}
use lib.Seq.{sets, sets-eq, drop-append-add, drop-drop}

-- a list whose front is written, and what stands behind it
pub front_is : (l u : List ℕ) (n : ℕ) → length u ≡ n → n ≤ length l → sets l 0 u ≡ u ++ drop n l
front_is l u n h k =
    let q : 0 + length u ≡ n = omega arith in
    sets-eq u l 0 (omega arith) ∙ ap (λ (z : ℕ). u ++ drop z l) q

-- and what stands behind it is as it was
pub front_rest : (l u : List ℕ) (n : ℕ) → length u ≤ n → n ≤ length l → drop n (sets l 0 u) ≡ drop n l
front_rest l u n h k =
    let q : length u + (n - length u) ≡ n = omega arith in
    ap (drop n) (front_is l u (length u) refl (omega arith))
    ∙ ap (λ (z : ℕ). drop z (u ++ drop (length u) l)) (sym q)
    ∙ drop-append-add u (drop (length u) l) (n - length u)
    ∙ drop-drop (n - length u) (length u) l
    ∙ ap (λ (z : ℕ). drop z l) q

-- k lists of length m and r more are no longer than e of them
pub more_ticks : (m k r e : ℕ) → k + r ≤ e → m * k + m * r ≤ m * e
more_ticks m k r e h = omega (arith, mul-add m k r, mul-le-mul_left m h)
