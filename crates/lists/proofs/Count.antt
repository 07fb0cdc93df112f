-- Counts, and the pigeonhole principle.
use Prim.Native.Nat.{ℕ, zero, suc, ◌+◌, ◌-◌, ◌<◌, ◌≤◌, zero-le}
use mathlib.Core.Path.{◌≡◌, refl, ◌∙◌, ap}
use mathlib.Core.List.{List}
use mathlib.Core.Bool.{Bool, true, false, cond}
use mathlib.Core.Logic.{dite}
use native.Mathlib.Omega.{arith}
use native.Mathlib.Numerals.{add-one}
use native.Mathlib.Decide.{dec_lt}
use borrow.Author.Tests.{lt-ltb, le-ltb}
use lib.Dec.{ltb}
use lib.ListN.{length, get_or, take}
use Rattle.std.specs.List.{count_by}
use Rattle.std.proofs.lemmas.List.Sums.{sum_by_more}
use Rattle.lists.specs.Count.{count}

-- one number more is tested
pub count_more : (k : ℕ) (p : ℕ → Bool) → count (k + 1) p ≡ count k p + cond (p k) 1 0
unfolding count
count_more k p = rw add-one

-- of the first n numbers of a list, those that pass
pub counted : (p : ℕ → Bool) (xs : List ℕ) (n : ℕ) → n ≤ length xs → count_by p (take n xs) ≡ count n (λ k. p (get_or xs k 0))
unfolding count
counted p xs zero h = refl
counted p xs (suc n) h =
    let e = sum_by_more (λ x. cond (p x) 1 0) xs n 0 (omega arith) in
    (rw add-one at e) ∙ ap (λ (k : ℕ). k + cond (p (get_or xs n 0)) 1 0) (counted p xs n (omega arith))

-- tests that agree below n count the same
pub count_ext : (n : ℕ) (p q : ℕ → Bool) → ((j : ℕ) → j < n → p j ≡ q j) → count n p ≡ count n q
unfolding count
count_ext zero p q h = refl
count_ext (suc n) p q h = rw (count_ext n p q (λ j l. h j (omega arith)), h n (omega arith))

-- a flag that is set only where another is counts no more
one_le : (a b : Bool) → (a ≡ true → b ≡ true) → cond a 1 0 ≤ cond b 1 0
one_le true b h = rw (h refl) (omega arith)
one_le false b h = zero-le

-- no more pass p than q, if q is wider
pub count-le : (n : ℕ) (p q : ℕ → Bool) → ((j : ℕ) → j < n → p j ≡ true → q j ≡ true) → count n p ≤ count n q
unfolding count
count-le zero p q h = zero-le
count-le (suc n) p q h = omega (arith, count-le n p q (λ j l. h j (omega arith)), one_le (p n) (q n) (h n (omega arith)))

-- fewer pass p than q, if q is wider and a passes q alone
pub count-lt : (n : ℕ) (p q : ℕ → Bool) → ((j : ℕ) → j < n → p j ≡ true → q j ≡ true) → (a : ℕ) → a < n → p a ≡ false → q a ≡ true → count n p < count n q
unfolding count
count-lt zero p q h a l x y = omega arith
count-lt (suc n) p q h a l x y =
    dite (dec_lt a n)
    (λ s. omega (arith, count-lt n p q (λ j l'. h j (omega arith)) a s x y, one_le (p n) (q n) (h n (omega arith))))
    (λ s.
    let e : a ≡ n = omega arith in
    let x' : p n ≡ false = rw e at x in
    let y' : q n ≡ true = rw e at y in
    rw (x', y') (omega (arith, count-le n p q (λ j l'. h j (omega arith)))))

-- a test that all pass counts all
pub count_all : (n : ℕ) → count n (λ j. true) ≡ n
unfolding count
count_all zero = refl
count_all (suc n) = omega (arith, count_all n)

-- v with the value w left out
squash : ℕ → ℕ → ℕ
squash w v = cond (ltb w v) (v - 1) v

-- what is left out makes room: there is one value less
squash_lt : (w v m : ℕ) → v < suc m → w < suc m → (v ≡ w → ⊥) → squash w v < m
unfolding squash
squash_lt w v m a b n = dite (dec_lt w v) (λ h. rw (lt-ltb w v h) (omega arith)) (λ h. rw (le-ltb w v (omega arith)) (omega arith))

-- and values stay apart
squash_inj : (w u v : ℕ) → (u ≡ w → ⊥) → (v ≡ w → ⊥) → squash w u ≡ squash w v → u ≡ v
unfolding squash
squash_inj w u v m n e =
    dite (dec_lt w u)
    (λ h. dite (dec_lt w v)
    (λ k. let e' : u - 1 ≡ v - 1 = rw (lt-ltb w u h, lt-ltb w v k) at e in omega arith)
    (λ k. let e' : u - 1 ≡ v = rw (lt-ltb w u h, le-ltb w v (omega arith)) at e in omega arith))
    (λ h. dite (dec_lt w v)
    (λ k. let e' : u ≡ v - 1 = rw (le-ltb w u (omega arith), lt-ltb w v k) at e in omega arith)
    (λ k. let e' : u ≡ v = rw (le-ltb w u (omega arith), le-ltb w v (omega arith)) at e in e'))

-- each of the first n numbers goes below m
abbrev Into : ℕ → ℕ → (ℕ → ℕ) → Type 0
Into n m f = (i : ℕ) → i < n → f i < m

-- no two of them go to one place
abbrev Inj : ℕ → (ℕ → ℕ) → Type 0
Inj n f = (i j : ℕ) → i < n → j < n → f i ≡ f j → i ≡ j

-- suc m pigeons do not fit into m holes
crowd : (m : ℕ) (f : ℕ → ℕ) → Into (suc m) m f → Inj (suc m) f → ⊥
crowd zero f g h = omega (arith, g 0 (omega arith))
crowd (suc m) f g h =
    let far : (i : ℕ) → i < suc m → f i ≡ f (suc m) → ⊥ = λ i l e. omega (arith, h i (suc m) (omega arith) (omega arith) e) in
    crowd m (λ i. squash (f (suc m)) (f i))
    (λ i l. squash_lt (f (suc m)) (f i) m (g i (omega arith)) (g (suc m) (omega arith)) (far i l))
    (λ i j k l e. h i j (omega arith) (omega arith) (squash_inj (f (suc m)) (f i) (f j) (far i k) (far j l) e))

-- n pigeons in n holes leave no hole empty
pub onto : (n : ℕ) (f : ℕ → ℕ) → Into n n f → Inj n f → (w : ℕ) → w < n → ((i : ℕ) → i < n → f i ≡ w → ⊥) → ⊥
onto zero f g h w l none = omega arith
onto (suc m) f g h w l none =
    crowd m (λ i. squash w (f i))
    (λ i k. squash_lt w (f i) m (g i k) l (none i k))
    (λ i j k k' e. h i j k k' (squash_inj w (f i) (f j) (none i k) (none j k') e))
