-- Laws of the best row, of a test that every row passes, and of the best ceiling held.
use Prim.Native.Nat.{ℕ, zero, suc, ◌+◌, ◌<◌, min}
use mathlib.Core.Path.{◌≡◌, refl, ◌∙◌}
use mathlib.Core.Bool.{Bool, true, false, cond, not, ◌&&◌, ◌||◌}
use native.Mathlib.Omega.{arith}
use native.Mathlib.Numerals.{add-one}
use borrow.Author.Count.{below_more}
use borrow.Author.Tests.{ltb-true, ltb-false, lt-ltb, le-ltb}
use lib.Dec.{ltb}
use Rattle.lists.proofs.Tests.{not_both, both}
use Rattle.picks.specs.Best.{beat, best, every}
use Rattle.picks.specs.Pick.{gtb}
use Rattle.picks.specs.Offer.{against, with_key, best_of, lowest}

-- what holds below n and at n holds below its successor
below_suc : (P : ℕ → Type 0) (n : ℕ) → ((i : ℕ) → i < n → P i) → P n → (i : ℕ) → i < suc n → P i
below_suc P n all here i l = below_more P n all here i (rw (add-one n) l)

-- no key is ahead of itself, and one that is not ahead of a key is not ahead of a better one
pub record Order (ahead : ℕ → ℕ → Bool) : Type 0 where
  pub apart : (a : ℕ) → ahead a a ≡ false
  pub over : (a b c : ℕ) → ahead b a ≡ true → ahead c a ≡ false → ahead c b ≡ false

-- the smaller key goes first, as a rank does
pub smaller_first : Order ltb
smaller_first =
    record {
      apart = λ a. le-ltb a a (omega arith);
      over = λ a b c h l. le-ltb c b (omega (arith, ltb-true b a h, ltb-false c a l));
    }

-- the larger one does, as the mark of a section begun later
pub larger_first : Order gtb
larger_first =
    record {
      apart = λ a. le-ltb a a (omega arith);
      over = λ a b c h l. le-ltb b c (omega (arith, ltb-true a b h, ltb-false a c l));
    }

module _ (ahead : ℕ → ℕ → Bool) (test : ℕ → Bool) (key : ℕ → ℕ) where
  -- none of the first n rows passes; or row x passes, and no row that passes is ahead of it
  abbrev pub IsBest : ℕ → ℕ → Type 0
  IsBest n zero = (i : ℕ) → i < n → test i ≡ false
  IsBest n (suc x) = (x < n) × (test x ≡ true) × ((i : ℕ) → i < n → test i ≡ true → ahead (key i) (key x) ≡ false)

  -- the best row is what it is to be
  pub best_is : Order ahead → (n : ℕ) → IsBest n (best ahead test key n)
  unfolding best beat
  best_is ord zero = λ i l. absurd (omega arith)
  best_is ord (suc n) = go (test n) refl (best ahead test key n) (best_is ord n)
    where
      -- row n against row x, of which it is ahead or not
      met : (x : ℕ) → test n ≡ true → IsBest n (suc x) → (w : Bool) → ahead (key n) (key x) ≡ w → IsBest (suc n) (cond w (suc n) (suc x))
      met x e (l, p, h) true a = (omega arith, e, below_suc _ n (λ i b q. ord.over (key x) (key n) (key i) a (h i b q)) (λ q. ord.apart (key n)))
      met x e (l, p, h) false a = (omega arith, p, below_suc _ n h (λ q. a))

      go : (t : Bool) → test n ≡ t → (b : ℕ) → IsBest n b → IsBest (suc n) (cond t (beat ahead key n b) b)
      go true e zero h = (omega arith, e, below_suc _ n (λ i l q. absurd (not_both q (h i l))) (λ q. ord.apart (key n)))
      go true e (suc x) h = met x e h (ahead (key n) (key x)) refl
      go false e zero h = below_suc _ n h e
      go false e (suc x) h = (omega arith, h.1, below_suc _ n h.2 (λ q. absurd (not_both q e)))

  -- it passes the test,
  pub best_passes : Order ahead → (n x : ℕ) → best ahead test key n ≡ suc x → (x < n) × (test x ≡ true)
  best_passes ord n x e = let h = rw e at (best_is ord n) in (h.0, h.1)

  -- and if there is none, no row does
  pub best_none : Order ahead → (n : ℕ) → best ahead test key n ≡ 0 → (i : ℕ) → i < n → test i ≡ false
  best_none ord n e = rw e at (best_is ord n)

  -- no row that passes is ahead of the best: by `ltb-false`, key x ≤ key i for `ltb`, and key i ≤ key x for `gtb`
  pub best_first : Order ahead → (n x : ℕ) → best ahead test key n ≡ suc x → (i : ℕ) → i < n → test i ≡ true → ahead (key i) (key x) ≡ false
  best_first ord n x e = (rw e at (best_is ord n)).2

  -- a row that fails changes nothing
  pub best_skip : (i : ℕ) → test i ≡ false → best_of ahead test key (i + 1) ≡ best_of ahead test key i
  unfolding best
  best_skip i h = rw (add-one, h)

  -- a row that passes is set against the best so far; where there is none it is the first
  pub best_more : (i : ℕ) → test i ≡ true → best_of ahead test key (i + 1) ≡ against ahead (best_of ahead test key i) i (key i)
  unfolding best beat with_key against
  best_more i h = rw (add-one, h) (go (best ahead test key i))
    where
      met : (x : ℕ) (w : Bool) → with_key key (cond w (suc i) (suc x)) ≡ cond w (with_key key (suc i)) (with_key key (suc x))
      met x true = refl
      met x false = refl

      go : (b : ℕ) → with_key key (beat ahead key i b) ≡ against ahead (with_key key b) i (key i)
      go zero = refl
      go (suc x) = met x (ahead (key i) (key x))

-- tests that agree, and keys that agree where they pass, have the same best row
pub best_same : {ahead : ℕ → ℕ → Bool} → Order ahead → (s t : ℕ → Bool) (k l : ℕ → ℕ) (n : ℕ) → ((i : ℕ) → i < n → s i ≡ t i) → ((i : ℕ) → i < n → t i ≡ true → k i ≡ l i) → best ahead s k n ≡ best ahead t l n
unfolding best beat
best_same ord s t k l zero tests keys = refl
best_same {ahead} ord s t k l (suc n) tests keys =
    rw (tests n (omega arith), best_same ord s t k l n (λ i b. tests i (omega arith)) (λ i b. keys i (omega arith))) (go (t n) refl (best ahead t l n) (best_is ahead t l ord n))
  where
    go : (p : Bool) → t n ≡ p → (b : ℕ) → IsBest ahead t l n b → cond p (beat ahead k n b) b ≡ cond p (beat ahead l n b) b
    go true e zero h = refl
    go true e (suc x) h = rw (keys n (omega arith) e, keys x (omega (arith, h.0)) h.1)
    go false e b h = refl

-- each row passes exactly when all do
pub every_at : (test : ℕ → Bool) (n : ℕ) → every n test ≡ true → (i : ℕ) → i < n → test i ≡ true
unfolding every
every_at test zero h i l = absurd (omega arith)
every_at test (suc n) h i l =
    let a = both (test n) (every n test) h in
    below_suc (λ k. test k ≡ true) n (every_at test n a.1) a.0 i l

-- all of them pass
pub every_all : (test : ℕ → Bool) (n : ℕ) → ((i : ℕ) → i < n → test i ≡ true) → every n test ≡ true
unfolding every
every_all test zero h = refl
every_all test (suc n) h = rw (h n (omega arith)) (every_all test n (λ i l. h i (omega arith)))

-- where not every row passes, one fails
pub every_not : (test : ℕ → Bool) (n : ℕ) → every n test ≡ false → (i : ℕ) × (i < n) × (test i ≡ false)
unfolding every
every_not test zero h = absurd (not_both refl h)
every_not test (suc n) h = go (test n) refl h (every_not test n)
  where
    go : (b : Bool) → test n ≡ b → (b && every n test) ≡ false → (every n test ≡ false → (i : ℕ) × (i < n) × (test i ≡ false)) → (i : ℕ) × (i < suc n) × (test i ≡ false)
    go true e k rest = let (i, l, f) = rest k in (i, omega arith, f)
    go false e k rest = (n, omega arith, e)

-- tests that agree pass alike
pub every_same : (s t : ℕ → Bool) (n : ℕ) → ((i : ℕ) → i < n → s i ≡ t i) → every n s ≡ every n t
unfolding every
every_same s t zero h = refl
every_same s t (suc n) h = rw (h n (omega arith), every_same s t n (λ i l. h i (omega arith)))

-- a number is below the smaller of two exactly when it is below both
ltb-min : (r a b : ℕ) → ltb r (min a b) ≡ (ltb r a && ltb r b)
ltb-min r a b = go (ltb r a) refl (ltb r b) refl
  where
    go : (s : Bool) → ltb r a ≡ s → (t : Bool) → ltb r b ≡ t → ltb r (min a b) ≡ (s && t)
    go true d true e = lt-ltb r (min a b) (omega (arith, ltb-true r a d, ltb-true r b e))
    go true d false e = le-ltb r (min a b) (omega (arith, ltb-false r b e))
    go false d t e = le-ltb r (min a b) (omega (arith, ltb-false r a d))

module _ (test : ℕ → Bool) (key : ℕ → ℕ) where
  -- a row that fails changes nothing
  pub lowest_skip : (i : ℕ) → test i ≡ false → lowest test key (i + 1) ≡ lowest test key i
  unfolding lowest
  lowest_skip i h = rw (add-one, h)

  -- one that passes counts
  pub lowest_more : (i : ℕ) → test i ≡ true → lowest test key (i + 1) ≡ min (key i) (lowest test key i)
  unfolding lowest
  lowest_more i h = rw (add-one, h)

  -- a rank is strictly better than the best ceiling held exactly when it is better than each of them
  pub below_lowest : (r : ℕ) → r < 64 → (n : ℕ) → ltb r (lowest test key n) ≡ every n (λ i. not (test i) || ltb r (key i))
  unfolding lowest every
  below_lowest r h zero = lt-ltb r 64 h
  below_lowest r h (suc n) = go (test n) (below_lowest r h n)
    where
      go : (t : Bool) → ltb r (lowest test key n) ≡ every n (λ i. not (test i) || ltb r (key i))
          → ltb r (cond t (min (key n) (lowest test key n)) (lowest test key n)) ≡ ((not t || ltb r (key n)) && every n (λ i. not (test i) || ltb r (key i)))
      go true ih = ltb-min r (key n) (lowest test key n) ∙ rw ih
      go false ih = ih
