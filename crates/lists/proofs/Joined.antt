-- Laws of lists one behind the other.
use Prim.Native.Nat.{ℕ, zero, suc, ◌+◌, ◌*◌, ◌<◌}
use mathlib.Core.Path.{◌≡◌, refl, sym, ◌∙◌, ap, ap₂}
use mathlib.Core.List.{List, ◌++◌, append_assoc, append-nil}
use mathlib.Core.Logic.{dite}
use native.Mathlib.Omega.{arith}
use native.Mathlib.Decide.{dec_lt}
use native.Mathlib.Numerals.{add-one}
use native.Mathlib.Nat.{add-zero, zero-add, add-suc, mul-suc, mul-le-mul_left}
use lib.ListN.{length, get_or, drop, length-append, get_or-append}
use lib.Seq.{sets, drop_at, get_or-append-add}
use Rattle.lists.specs.Tab.{joined}
use Rattle.lists.proofs.Sets.{sets_then}

module _ {A : Type 0} where
  -- one list more behind the others
  pub joined_more : (n : ℕ) (f : ℕ → List A) → joined (n + 1) f ≡ joined n f ++ f n
  unfolding joined
  joined_more n f = rw add-one

  -- the same lists give the same
  pub joined_same : (n : ℕ) (f g : ℕ → List A) → ((i : ℕ) → i < n → f i ≡ g i) → joined n f ≡ joined n g
  unfolding joined
  joined_same zero f g h = refl
  joined_same (suc n) f g h = ap₂ ◌++◌ (joined_same n f g (λ i l. h i (omega arith))) (h n (omega arith))

  -- the first m lists, and the n behind them
  pub joined-append : (m n : ℕ) (f : ℕ → List A) → joined (m + n) f ≡ joined m f ++ joined n (λ i. f (m + i))
  unfolding joined
  joined-append m zero f = rw (add-zero m, append-nil)
  joined-append m (suc n) f = rw (add-suc, joined-append m n f, append_assoc)

  -- lists of one length
  module _ (w : ℕ) (f : ℕ → List A) (size : (i : ℕ) → length (f i) ≡ w) where
    -- so many elements in all
    pub length-joined : (n : ℕ) → length (joined n f) ≡ w * n
    unfolding joined
    length-joined zero = omega arith
    length-joined (suc n) = simp length-append (omega (arith, length-joined n, size n, mul-suc w n))

    -- element j of list i
    pub get_or-joined : (n i j : ℕ) (d : A) → i < n → j < w → get_or (joined n f) (w * i + j) d ≡ get_or (f i) j d
    unfolding joined
    get_or-joined zero i j d k l = absurd (omega arith)
    get_or-joined (suc n) i j d k l =
        dite (dec_lt i n)
        (λ m. get_or-append (joined n f) (f n) d (w * i + j) (omega (arith, length-joined n, mul-suc w i, mul-le-mul_left w m)) ∙ get_or-joined n i j d m l)
        (λ m.
        let e : i ≡ n = omega arith in
        let at : w * i + j ≡ length (joined n f) + j = omega (arith, length-joined n, ap (λ (x : ℕ). w * x) e) in
        ap (λ (x : ℕ). get_or (joined n f ++ f n) x d) at ∙ get_or-append-add (joined n f) (f n) j d ∙ ap (λ (x : ℕ). get_or (f x) j d) (sym e))

    -- behind the first m lists stand the others
    pub drop-joined : (m n : ℕ) → drop (w * m) (joined (m + n) f) ≡ joined n (λ i. f (m + i))
    drop-joined m n = rw (joined-append m n f) (drop_at (joined m f) (joined n (λ i. f (m + i))) (w * m) (length-joined m))

    -- the next list is stored behind the others
    pub joined_next : {l1 l2 : List A} (l : List A) (at k : ℕ) → l1 ≡ sets l at (joined k f) → l2 ≡ sets l1 (at + w * k) (f k) → l2 ≡ sets l at (joined (k + 1) f)
    joined_next l at k e1 e2 = rw (joined_more k f) (sets_then l at (w * k) (joined k f) (f k) (length-joined k) e1 e2)

    -- the same from the front of a list on
    pub joined_front : {l1 l2 : List A} (l : List A) (k : ℕ) → l1 ≡ sets l 0 (joined k f) → l2 ≡ sets l1 (w * k) (f k) → l2 ≡ sets l 0 (joined (k + 1) f)
    joined_front {l1} l k e1 e2 = joined_next l 0 k e1 (e2 ∙ ap (λ (at : ℕ). sets l1 at (f k)) (sym (zero-add (w * k))))
