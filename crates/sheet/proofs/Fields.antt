-- Laws of lists of fields: their bits, and the number that they say.
use Prim.Native.Nat.{ℕ, zero, suc, ◌+◌, ◌*◌, ◌^◌, ◌<◌}
use mathlib.Core.Path.{◌≡◌, refl, sym, ◌∙◌, ap}
use mathlib.Core.List.{List, [], ◌∷◌, ◌++◌}
use native.Mathlib.Omega.{arith}
use native.Mathlib.Nat.{zero-add, add-mul, mul_assoc, mul-suc, zero-mul}
use lib.Pow.{pow-add}
use lib.Arith.{digits_lt}
use Rattle.lists.specs.Tab.{tab}
use Rattle.sheet.specs.Fields.{Field, width, behind, Fit, none, more}
use Rattle.sheet.specs.Sheet.{field}

-- fields one list behind the other
pub width-append : (fs gs : List Field) → width (fs ++ gs) ≡ width fs + width gs
unfolding width
width-append [] gs = omega arith
width-append (f ∷ fs) gs = omega (arith, width-append fs gs)

-- and the number that they say
pub behind-append : (ahead : ℕ) (fs gs : List Field) → behind ahead (fs ++ gs) ≡ behind (behind ahead fs) gs
unfolding behind
behind-append ahead [] gs = refl
behind-append ahead (f ∷ fs) gs = behind-append (ahead * 2 ^ f.width + f.value) fs gs

-- what stands ahead is moved up by the fields' bits
pub behind_ahead : (ahead : ℕ) (fs : List Field) → behind ahead fs ≡ ahead * 2 ^ width fs + behind 0 fs
unfolding behind width
behind_ahead ahead [] = omega arith
behind_ahead ahead (f ∷ fs) =
    let l = behind_ahead (ahead * 2 ^ f.width + f.value) fs in
    let r = behind_ahead (0 * 2 ^ f.width + f.value) fs in
    let p : ahead * 2 ^ (f.width + width fs) ≡ ahead * 2 ^ f.width * 2 ^ width fs = ap (λ (k : ℕ). ahead * k) (pow-add 2 f.width (width fs)) ∙ sym (mul_assoc ahead (2 ^ f.width) (2 ^ width fs)) in
    rw (l, r, p, zero-mul, zero-add, add-mul) (omega arith)

-- fields that fit say a number of their bits
pub behind-lt : {fs : List Field} → Fit fs → behind 0 fs < 2 ^ width fs
unfolding behind width
behind-lt none = omega arith
behind-lt (more {f} {fs} h r) =
    let e : behind (0 * 2 ^ f.width + f.value) fs ≡ f.value * 2 ^ width fs + behind 0 fs = rw (zero-mul, zero-add) (behind_ahead f.value fs) in
    rw (e, pow-add 2 f.width (width fs)) (digits_lt h (behind-lt r))

-- fields that fit, one list behind the other
fit_append : {fs gs : List Field} → Fit fs → Fit gs → Fit (fs ++ gs)
fit_append none s = s
fit_append (more h r) s = more h (fit_append r s)

-- n fields of one width
pub width_tab : (n w : ℕ) (f : ℕ → ℕ) → width (tab n (λ i. field w (f i))) ≡ w * n
unfolding tab width
width_tab zero w f = omega arith
width_tab (suc n) w f =
    rw (width-append (tab n (λ i. field w (f i))) (field w (f n) ∷ []), width_tab n w f) (omega (arith, mul-suc w n))

-- fit where each value does
pub fit_tab : (n w : ℕ) (f : ℕ → ℕ) → ((i : ℕ) → i < n → f i < 2 ^ w) → Fit (tab n (λ i. field w (f i)))
unfolding tab
fit_tab zero w f h = none
fit_tab (suc n) w f h = fit_append (fit_tab n w f (λ i l. h i (omega arith))) (more (h n (omega arith)) none)
