-- Laws of tabulated lists.
use Prim.Native.Nat.{ℕ, zero, suc, ◌+◌, ◌-◌, ◌≤◌, ◌<◌}
use mathlib.Core.Path.{◌≡◌, refl, sym, ◌∙◌, ap}
use mathlib.Core.List.{List, [], ◌∷◌, ◌++◌, append_assoc, append-nil}
use mathlib.Core.Logic.{dite}
use native.Mathlib.Omega.{arith}
use native.Mathlib.Decide.{dec_lt, ℕ_discrete}
use native.Mathlib.Numerals.{add-one}
use native.Mathlib.Nat.{add-zero, add-suc, sub-zero}
use lib.ListN.{length, get_or, set, length-set, replicate, replicate-append-replicate, length-append, length-replicate, get_or-replicate, get_or-append}
use lib.Seq.{set_at, get_or_at, get_or-append-add, get_or-set_same, get_or-set_other, ext_get_or}
use Rattle.lists.specs.Tab.{tab, blank, filled}

-- a tabulated list has n places
pub length-tab : {A : Type 0} (n : ℕ) (f : ℕ → A) → length (tab n f) ≡ n
unfolding tab
length-tab zero f = refl
length-tab (suc n) f = simp length-append (omega (arith, length-tab n f))

-- and at each of them what the rule gives
pub get_or-tab : {A : Type 0} (n : ℕ) (f : ℕ → A) (k : ℕ) (d : A) → k < n → get_or (tab n f) k d ≡ f k
unfolding tab
get_or-tab zero f k d h = absurd (omega arith)
get_or-tab (suc n) f k d h =
    dite (dec_lt k n)
    (λ l. get_or-append (tab n f) (f n ∷ []) d k (omega (arith, length-tab n f)) ∙ get_or-tab n f k d l)
    (λ l.
    let e : k ≡ n = omega arith in
    rw e (get_or_at (tab n f) (f n) [] d n (length-tab n f)))

-- lists that agree at each place
pub tab_same : {A : Type 0} (n : ℕ) (f g : ℕ → A) → ((i : ℕ) → i < n → f i ≡ g i) → tab n f ≡ tab n g
unfolding tab
tab_same zero f g h = refl
tab_same (suc n) f g h = rw (tab_same n f g (λ i l. h i (omega arith)), h n (omega arith))

-- one place stored anew, where another rule gives that place what is stored, and the others what they have
pub tab-set : {A : Type 0} (n : ℕ) (f g : ℕ → A) (k : ℕ) (v : A) → v ≡ g k → ((i : ℕ) → (i ≡ k → ⊥) → f i ≡ g i) → set (tab n f) k v ≡ tab n g
tab-set n f g k v e h =
    ext_get_or v (set (tab n f) k v) (tab n g) (length-set (tab n f) k v ∙ length-tab n f ∙ sym (length-tab n g)) (λ i m.
    let l : i < n = omega (arith, length-set (tab n f) k v, length-tab n f) in
    sym (get_or-tab n g i v l ∙ dite (ℕ_discrete i k)
    (λ q. rw (q, sym e, get_or-set_same (tab n f) k v v (omega (arith, length-tab n f))))
    (λ q. sym (get_or-set_other (tab n f) k i v v q ∙ get_or-tab n f i v l ∙ h i q))))

-- a list by its first places and the others
pub tab-append : {A : Type 0} (m n : ℕ) (f : ℕ → A) → tab (m + n) f ≡ tab m f ++ tab n (λ i. f (m + i))
unfolding tab
tab-append m zero f = rw (add-zero m, append-nil)
tab-append m (suc n) f = rw (add-suc, tab-append m n f, append_assoc)

-- a list by the places before one of them, that one, and those behind it
pub tab_split : {A : Type 0} (m n : ℕ) (f : ℕ → A) → tab (m + suc n) f ≡ tab m f ++ (f m ∷ tab n (λ i. f (suc m + i)))
unfolding tab
tab_split m n f =
    let e : m + suc n ≡ suc m + n = omega arith in
    rw (e, tab-append (suc m) n f, append_assoc)

module _ {A : Type 0} (size : ℕ) (z : A) (f : ℕ → A) where
  -- an array of which no place is filled yet
  pub filled_none : filled size z 0 f ≡ blank size z
  unfolding filled tab blank
  filled_none = ap (λ (n : ℕ). replicate n z) (sub-zero size)

  -- the next place is filled by a store
  pub filled_more : (n : ℕ) → n < size → set (filled size z n f) n (f n) ≡ filled size z (n + 1) f
  unfolding filled tab
  filled_more n h =
      let e : size - n ≡ suc (size - suc n) = omega arith in
      rw (e, add-one, append_assoc) (set_at (tab n f) z (replicate (size - suc n) z) (f n) n (length-tab n f))

  -- the same, for an array that is known to be filled so far
  pub filled_next : (n : ℕ) (out : List A) → n < size → out ≡ filled size z n f → set out n (f n) ≡ filled size z (n + 1) f
  filled_next n out h e = ap (λ (x : List A). set x n (f n)) e ∙ filled_more n h

  -- an array of which every place is filled
  pub filled_all : filled size z size f ≡ tab size f
  unfolding filled
  filled_all =
      let e : size - size ≡ 0 = omega arith in
      rw (e, append-nil)

  -- a filled place
  pub get_or-filled : (n k : ℕ) (d : A) → k < n → get_or (filled size z n f) k d ≡ f k
  unfolding filled
  get_or-filled n k d h = get_or-append (tab n f) (replicate (size - n) z) d k (omega (arith, length-tab n f)) ∙ get_or-tab n f k d h

  -- the places behind the filled ones
  pub get_or-rest : (n k : ℕ) (d : A) → n ≤ k → k < size → get_or (filled size z n f) k d ≡ z
  unfolding filled
  get_or-rest n k d h l =
      let e : k ≡ length (tab n f) + (k - n) = omega (arith, length-tab n f) in
      ap (λ (i : ℕ). get_or (tab n f ++ replicate (size - n) z) i d) e
      ∙ get_or-append-add (tab n f) (replicate (size - n) z) (k - n) d
      ∙ get_or-replicate (size - n) (k - n) z d (omega arith)

  -- an array keeps its size
  pub length-filled : (n : ℕ) → n ≤ size → length (filled size z n f) ≡ size
  unfolding filled
  length-filled n h = omega (arith, length-append (tab n f) (replicate (size - n) z), length-tab n f, length-replicate (size - n) z)

-- arrays that agree at each filled place
pub filled_same : {A : Type 0} (size : ℕ) (z : A) (n : ℕ) (f g : ℕ → A) → ((i : ℕ) → i < n → f i ≡ g i) → filled size z n f ≡ filled size z n g
unfolding filled
filled_same size z n f g h = rw (tab_same n f g h)

-- a list with the same at each place
tab_const : {A : Type 0} (n : ℕ) (z : A) (f : ℕ → A) → ((i : ℕ) → i < n → f i ≡ z) → tab n f ≡ replicate n z
unfolding tab
tab_const zero z f h = refl
tab_const (suc n) z f h = rw (tab_const n z f (λ i l. h i (omega arith)), h n (omega arith)) (replicate-append-replicate n 1 z ∙ ap (λ (k : ℕ). replicate k z) (add-one n))

-- an array given at each place, with z from place n on
pub tab_filled : {A : Type 0} (size : ℕ) (z : A) (n : ℕ) (f g : ℕ → A) → n ≤ size → ((i : ℕ) → i < n → f i ≡ g i) → ((i : ℕ) → n ≤ i → i < size → f i ≡ z) → tab size f ≡ filled size z n g
unfolding filled
tab_filled size z n f g h same rest =
    let e : size ≡ n + (size - n) = omega arith in
    ap (λ (k : ℕ). tab k f) e ∙ tab-append n (size - n) f ∙ rw (tab_same n f g same, tab_const (size - n) z (λ i. f (n + i)) (λ i l. rest (n + i) (omega arith) (omega arith)))

-- no place of a blank array differs, nor does what is read past its end
pub get_or-blank : {A : Type 0} (size : ℕ) (z : A) (k : ℕ) → get_or (blank size z) k z ≡ z
unfolding blank
get_or-blank zero z k = refl
get_or-blank (suc size) z zero = refl
get_or-blank (suc size) z (suc k) = get_or-blank size z k

-- a blank array has its size
pub length-blank : {A : Type 0} (n : ℕ) (z : A) → length (blank n z) ≡ n
unfolding blank
length-blank n z = length-replicate n z
