-- Laws of a resource's ceiling: no user is ranked before it, and, where there is a user, one of them has it; what a row more changes.
use Prim.Native.Nat.{ℕ, zero, suc, ◌+◌, ◌≤◌, ◌<◌, min}
use mathlib.Core.Path.{◌≡◌, refl, sym, ◌∙◌, ap}
use mathlib.Core.List.{List}
use mathlib.Core.Bool.{Bool, true, false, cond}
use mathlib.Core.Logic.{dite}
use native.Mathlib.Omega.{arith}
use native.Mathlib.Decide.{dec_lt, ℕ_discrete}
use native.Mathlib.Numerals.{add-one}
use native.Mathlib.Nat.{min-le_left, min-le_right, min-eq_left, min-eq_right}
use lib.ListN.{get_or, set}
use Rattle.std.proofs.lemmas.List.{set-get_or}
use borrow.Author.Tests.{lt-ltb, le-ltb, eq-eqb, ne_eqb}
use Rattle.lists.proofs.Tab.{get_or-tab, tab_same, tab-set}
use Rattle.rank.specs.Ceiling.{uses, ceiling_of, ceilings_of}

module _ (resources ranks : List ℕ) (r : ℕ) where
  -- one row more
  ceiling_more : (k : ℕ) → ceiling_of resources ranks (k + 1) r ≡ cond (uses (get_or resources k 0) r) (min (get_or ranks k 0) (ceiling_of resources ranks k r)) (ceiling_of resources ranks k r)
  unfolding ceiling_of
  ceiling_more k = rw add-one

  -- a row that does not use r, or is ranked no better, leaves the ceiling as it was
  ceiling_kept : (k : ℕ) → (0 < r → get_or resources k 0 ≡ r → ceiling_of resources ranks k r ≤ get_or ranks k 0) → ceiling_of resources ranks (k + 1) r ≡ ceiling_of resources ranks k r
  ceiling_kept k h =
      ceiling_more k
      ∙ dite (dec_lt 0 r)
      (λ p. dite (ℕ_discrete (get_or resources k 0) r)
      (λ e. simp (lt-ltb 0 r p, eq-eqb (get_or resources k 0) r e, min-eq_right (h p e)))
      (λ e. simp (ne_eqb (get_or resources k 0) r e, lt-ltb 0 r p)))
      (λ p. simp (le-ltb 0 r (omega arith)))

  -- a user that is ranked better has the ceiling
  ceiling_new : (k : ℕ) → 0 < r → get_or resources k 0 ≡ r → get_or ranks k 0 < ceiling_of resources ranks k r → ceiling_of resources ranks (k + 1) r ≡ get_or ranks k 0
  ceiling_new k p e h =
      ceiling_more k ∙ simp (lt-ltb 0 r p, eq-eqb (get_or resources k 0) r e, min-eq_left {n = get_or ranks k 0} {m = ceiling_of resources ranks k r} (omega arith))

  -- a row more makes the best rank no worse
  least : (b : Bool) (x y : ℕ) → cond b (min x y) y ≤ y
  least true x y = min-le_right x y
  least false x y = omega arith

  -- no user is ranked before the ceiling
  pub ceiling_le : (n k : ℕ) → k < n → uses (get_or resources k 0) r ≡ true → ceiling_of resources ranks n r ≤ get_or ranks k 0
  unfolding ceiling_of
  ceiling_le zero k h u = absurd (omega arith)
  ceiling_le (suc n) k h u =
      dite (dec_lt k n)
      (λ l. omega (arith, ceiling_le n k l u, least (uses (get_or resources n 0) r) (get_or ranks n 0) (ceiling_of resources ranks n r)))
      (λ l.
      let e : k ≡ n = omega arith in
      let u' : uses (get_or resources n 0) r ≡ true = rw e at u in
      rw (e, u') (min-le_left (get_or ranks n 0) (ceiling_of resources ranks n r)))

  -- one of the first n rows uses r and has the rank c
  abbrev Held : ℕ → ℕ → Type 0
  Held n c = (k : ℕ) × (k < n) × (uses (get_or resources k 0) r ≡ true) × (get_or ranks k 0 ≡ c)

  -- where there is a user, a user has the ceiling
  pub ceiling_held : (n : ℕ) → ceiling_of resources ranks n r < 64 → Held n (ceiling_of resources ranks n r)
  unfolding ceiling_of
  ceiling_held zero h = absurd (omega arith)
  ceiling_held (suc n) h = go (uses (get_or resources n 0) r) refl h (ceiling_held n)
    where
      c : ℕ
      c = ceiling_of resources ranks n r

      before : Held n c → Held (suc n) c
      before (k, l, u, e) = (k, omega arith, u, e)

      go : (b : Bool) → uses (get_or resources n 0) r ≡ b → cond b (min (get_or ranks n 0) c) c < 64 → (c < 64 → Held n c) → Held (suc n) (cond b (min (get_or ranks n 0) c) c)
      go false e h ih = before (ih h)
      go true e h ih =
          dite (dec_lt (get_or ranks n 0) c)
          (λ l. (n, omega arith, e, sym (min-eq_left (omega arith))))
          (λ l.
          let q : min (get_or ranks n 0) c ≡ c = min-eq_right (omega arith) in
          rw q (before (ih (rw q at h))))

module _ (resources ranks ceilings : List ℕ) (k : ℕ) (are : ceilings ≡ ceilings_of resources ranks k) where
  -- a place of the ceilings of k rows
  ceiling_at : (r : ℕ) → r < 17 → get_or ceilings r 0 ≡ ceiling_of resources ranks k r
  unfolding ceilings_of
  ceiling_at r l = ap (λ (x : List ℕ). get_or x r 0) are ∙ get_or-tab 17 (ceiling_of resources ranks k) r 0 l

  -- a row that names no resource, or is ranked no better than the ceiling of the one it names, leaves the ceilings as they were
  pub ceilings_kept : (0 < get_or resources k 0 → get_or resources k 0 < 17 → get_or ceilings (get_or resources k 0) 0 ≤ get_or ranks k 0) → ceilings ≡ ceilings_of resources ranks (k + 1)
  unfolding ceilings_of
  ceilings_kept h =
      are
      ∙ tab_same 17 (ceiling_of resources ranks k) (ceiling_of resources ranks (k + 1))
      (λ r l. sym (ceiling_kept resources ranks r k
      (λ p e. omega (arith, ceiling_at r l, ap (λ (x : ℕ). get_or ceilings x 0) e, h (omega arith) (omega arith)))))

  -- the rank of a row that is ranked better is the ceiling of the resource it names
  pub ceilings_new : 0 < get_or resources k 0 → get_or resources k 0 < 17 → get_or ranks k 0 < get_or ceilings (get_or resources k 0) 0 → set ceilings (get_or resources k 0) (get_or ranks k 0) ≡ ceilings_of resources ranks (k + 1)
  unfolding ceilings_of
  ceilings_new p l h =
      let e : get_or ranks k 0 ≡ ceiling_of resources ranks (k + 1) (get_or resources k 0) = sym (ceiling_new resources ranks (get_or resources k 0) k p refl (omega (arith, ceiling_at (get_or resources k 0) l))) in
      ap (λ (x : List ℕ). set x (get_or resources k 0) (get_or ranks k 0)) are
      ∙ tab-set 17 (ceiling_of resources ranks k) (ceiling_of resources ranks (k + 1)) (get_or resources k 0) (get_or ranks k 0) e (λ r q. sym (ceiling_kept resources ranks r k (λ m n. absurd (q (sym n)))))

  -- so in either case the better of the two ranks is the ceiling of the resource that the row names
  pub ceilings_user : (x : ℕ) → 0 < get_or resources k 0 → get_or resources k 0 < 17 → x ≡ min (get_or ranks k 0) (get_or ceilings (get_or resources k 0) 0) → set ceilings (get_or resources k 0) x ≡ ceilings_of resources ranks (k + 1)
  ceilings_user x p l q =
      let own : ℕ = get_or ranks k 0 in
      let was : ℕ = get_or ceilings (get_or resources k 0) 0 in
      dite (dec_lt own was)
      (λ h.
      let e : x ≡ own = q ∙ min-eq_left (omega arith) in
      rw e (ceilings_new p l h))
      (λ h.
      let e : x ≡ was = q ∙ min-eq_right (omega arith) in
      rw e (set-get_or ceilings (get_or resources k 0) 0 ∙ ceilings_kept (λ _ _. omega arith)))
