-- Laws of lists of terms.
use Prim.Native.Nat.{ℕ, zero, suc, ◌+◌, ◌≤◌, ◌<◌, zero-le}
use mathlib.Core.Path.{◌≡◌, refl}
use mathlib.Core.List.{List, [], ◌∷◌, ◌++◌, append-nil}
use mathlib.Core.Bool.{Bool, true, false, cond}
use mathlib.Core.Logic.{dite}
use native.Mathlib.Omega.{arith}
use native.Mathlib.Numerals.{add-one}
use native.Mathlib.Decide.{dec_lt}
use lib.ListN.{length, get_or, length-append, get_or-append}
use lib.Seq.{get_or_at}
use lib.Dec.{eqb}
use Rattle.bounds.specs.Demand.{Term, GoodTerm, GoodTerms, no_term}
use Rattle.bounds.specs.Terms.{term_at, terms_on}

-- one task more
pub on_more : (ps ls homes : List ℕ) (p k : ℕ) → terms_on ps ls homes p (k + 1) ≡ terms_on ps ls homes p k ++ cond (eqb (get_or homes k 0) p) (term_at ps ls k ∷ []) []
unfolding terms_on
on_more ps ls homes p k = rw add-one

-- no more terms than tasks
pub length-on : (ps ls homes : List ℕ) (p k : ℕ) → length (terms_on ps ls homes p k) ≤ k
unfolding terms_on
length-on ps ls homes p zero = zero-le
length-on ps ls homes p (suc k) =
    omega (arith, length-append (terms_on ps ls homes p k) (cond (eqb (get_or homes k 0) p) (term_at ps ls k ∷ []) []), one (eqb (get_or homes k 0) p), length-on ps ls homes p k)
  where
    one : (b : Bool) → length (cond b (term_at ps ls k ∷ []) []) ≤ 1
    one true = omega arith
    one false = omega arith

-- only the homes of the first k tasks tell which of them are on a processor
pub on_same : (ps ls homes others : List ℕ) (p k : ℕ) → ((i : ℕ) → i < k → get_or homes i 0 ≡ get_or others i 0) → terms_on ps ls homes p k ≡ terms_on ps ls others p k
unfolding terms_on
on_same ps ls homes others p zero h = refl
on_same ps ls homes others p (suc k) h = rw (on_same ps ls homes others p k (λ i l. h i (omega arith)), h k (omega arith))

-- a good term behind good ones
good-append : (xs : List Term) (x : Term) → GoodTerms xs → GoodTerm x → GoodTerms (xs ++ (x ∷ []))
good-append xs x g h i l =
    dite (dec_lt i (length xs))
    (λ s. rw (get_or-append xs (x ∷ []) no_term i s) (g i s))
    (λ s.
    let e : i ≡ length xs = omega (arith, length-append xs (x ∷ [])) in
    rw (e, get_or_at xs x [] no_term (length xs) refl) h)

-- terms of good tasks are good
pub on_good : (ps ls homes : List ℕ) (p k : ℕ) → ((i : ℕ) → i < k → GoodTerm (term_at ps ls i)) → GoodTerms (terms_on ps ls homes p k)
unfolding terms_on
on_good ps ls homes p zero h = λ i l. absurd (omega arith)
on_good ps ls homes p (suc k) h = go (eqb (get_or homes k 0) p) (on_good ps ls homes p k (λ i l. h i (omega arith)))
  where
    go : (b : Bool) → GoodTerms (terms_on ps ls homes p k) → GoodTerms (terms_on ps ls homes p k ++ cond b (term_at ps ls k ∷ []) [])
    go true g = good-append (terms_on ps ls homes p k) (term_at ps ls k) g (h k (omega arith))
    go false g = rw (append-nil (terms_on ps ls homes p k)) g
