-- Laws of stores and of what stands behind a place.
use Prim.Native.Nat.{ℕ, zero, suc, ◌+◌, ◌-◌, ◌<◌, ◌≤◌}
use mathlib.Core.Path.{◌≡◌, refl, sym, ◌∙◌, ap}
use mathlib.Core.List.{List, [], ◌∷◌, ◌++◌, append_assoc}
use native.Mathlib.Omega.{arith}
use native.Mathlib.Numerals.{add-one}
use native.Mathlib.Nat.{add-zero}
use borrow.Rule.Slice.PartMut.{put_mid}
use lib.ListN.{length, get_or, take, drop, set, length-set, length-drop}
use lib.Seq.{sets, sets-eq, length-sets, set_comm, take_all, take-suc, length-take-le, drop-cons, drop-drop, get_or-set_same, get_or-set_other, drop-set-lt}

module _ {A : Type 0} where
  -- stores one run behind the other are one run
  sets-append : (l : List A) (i : ℕ) (u v : List A) → sets (sets l i u) (i + length u) v ≡ sets l i (u ++ v)
  sets-append l i [] v =
      let e : i + 0 ≡ i = omega arith in
      ap (λ (k : ℕ). sets l k v) e
  sets-append l i (a ∷ u) v =
      let e : i + suc (length u) ≡ suc i + length u = omega arith in
      ap (λ (k : ℕ). sets (sets (set l i a) (suc i) u) k v) e ∙ sets-append (set l i a) (suc i) u v

  -- the same, where the second run is known to be stored k places behind the start of the first
  pub sets_then : {l1 l2 : List A} (l : List A) (at k : ℕ) (u v : List A) → length u ≡ k → l1 ≡ sets l at u → l2 ≡ sets l1 (at + k) v → l2 ≡ sets l at (u ++ v)
  sets_then l at k u v n e1 e2 =
      e2 ∙ ap (λ (m : List A). sets m (at + k) v) e1 ∙ ap (λ (j : ℕ). sets (sets l at u) (at + j) v) (sym n) ∙ sets-append l at u v

  -- a run that is stored leaves the length as it was
  pub stored_length : {l1 : List A} (l : List A) (at : ℕ) (u : List A) → l1 ≡ sets l at u → length l1 ≡ length l
  stored_length l at u e = ap length e ∙ length-sets l at u

  -- what is read after a run of stores: beside it what stood there,
  pub get_or-beside : (d : A) (u l : List A) (at k : ℕ) → (at ≤ k → at + length u ≤ k) → get_or (sets l at u) k d ≡ get_or l k d
  get_or-beside d [] l at k h = refl
  get_or-beside d (a ∷ u) l at k h = get_or-beside d u (set l at a) (suc at) k (λ m. omega (arith, h (omega arith))) ∙ get_or-set_other l at k a d (λ e. omega (arith, h (omega arith)))

  -- and within it what was stored
  pub get_or-within : (d : A) (u l : List A) (at j : ℕ) → at + length u ≤ length l → j < length u → get_or (sets l at u) (at + j) d ≡ get_or u j d
  get_or-within d [] l at j h m = absurd (omega arith)
  get_or-within d (a ∷ u) l at zero h m = rw (add-zero at) (get_or-beside d u (set l at a) (suc at) at (λ m. absurd (omega arith)) ∙ get_or-set_same l at a d (omega arith))
  get_or-within d (a ∷ u) l at (suc j) h m =
      let e : at + suc j ≡ suc at + j = omega arith in
      rw e (get_or-within d u (set l at a) (suc at) j (omega (arith, length-set l at a)) (omega arith))

  -- one more store of a run that is copied
  pub sets_more : (l : List A) (at : ℕ) (s : List A) (i : ℕ) (d : A) → i < length s → set (sets l at (take i s)) (at + i) (get_or s i d) ≡ sets l at (take (i + 1) s)
  sets_more l at s i d h =
      let n : length (take i s) ≡ i = length-take-le i s (omega arith) in
      let e = sets-append l at (take i s) (get_or s i d ∷ []) in
      rw (add-one, take-suc s i d h, sym e, n)

  -- a part that a run is copied over is a run of stores
  pub sets_mid : (l : List A) (at k : ℕ) (v u : List A) → v ≡ u → k ≡ length u → at + length u ≤ length l → put_mid at k l v ≡ sets l at u
  sets_mid l at k v u e n h = rw (e, n, sets-eq u l at h, drop-drop (length u) at l) (simp append_assoc)

  -- what stands from the place of a store on
  pub drop-set : (l : List A) (i : ℕ) (a : A) → i < length l → drop i (set l i a) ≡ a ∷ drop (suc i) l
  drop-set l i a h =
      let k : i < length (set l i a) = rw (length-set l i a) h in
      drop-cons (set l i a) i a k ∙ rw (get_or-set_same l i a a h, drop-set-lt (suc i) l i a (omega arith))

  -- all that stands from a place on
  pub take_rest : (l : List A) (i n : ℕ) → length l ≡ n → take (n - i) (drop i l) ≡ drop i l
  take_rest l i n h = take_all (n - i) (drop i l) (omega (arith, length-drop i l))

  -- the last store of a run may come first
  pub sets_last : (l : List A) (i : ℕ) (u : List A) (b : A) → sets l i (u ++ (b ∷ [])) ≡ sets (set l (i + length u) b) i u
  sets_last l i [] b =
      let e : i ≡ i + 0 = omega arith in
      ap (λ (k : ℕ). set l k b) e
  sets_last l i (a ∷ u) b =
      let e : suc i + length u ≡ i + suc (length u) = omega arith in
      sets_last (set l i a) (suc i) u b
      ∙ ap (λ (k : ℕ). sets (set (set l i a) k b) (suc i) u) e
      ∙ ap (λ (k : List A). sets k (suc i) u) (set_comm l i (i + suc (length u)) a b (λ q. omega arith))

  -- a run that is stored from the start of a part on, and the part put back, is stored from the part's place on
  pub sets-part : (l : List A) (at : ℕ) (u : List A) → at + length u ≤ length l → take at l ++ sets (drop at l) 0 u ≡ sets l at u
  sets-part l at u h =
      let k : 0 + length u ≤ length (drop at l) = omega (arith, length-drop at l) in
      let e : at + (0 + length u) ≡ at + length u = omega arith in
      rw (sets-eq u (drop at l) 0 k, sets-eq u l at h, drop-drop (0 + length u) at l, e) (simp append_assoc)

-- numbers that are each within their bound stay so where what is set in a place is within its own
pub set-within : (l : List ℕ) (b : ℕ → ℕ) (k v : ℕ) → ((m : ℕ) → get_or l m 0 ≤ b m) → v ≤ b k → (m : ℕ) → get_or (set l k v) m 0 ≤ b m
set-within [] b k v h le m = h m
set-within (x ∷ xs) b zero v h le zero = le
set-within (x ∷ xs) b zero v h le (suc m) = h (suc m)
set-within (x ∷ xs) b (suc k) v h le zero = h 0
set-within (x ∷ xs) b (suc k) v h le (suc m) = set-within xs (λ n. b (suc n)) k v (λ n. h (suc n)) le m
