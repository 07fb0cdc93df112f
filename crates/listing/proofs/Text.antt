-- Laws of decimal numbers and of lines.
use Prim.Native.Nat.{ℕ, zero, suc, ◌+◌, ◌-◌, ◌*◌, ◌/◌, ◌%◌, ◌^◌, ◌≤◌, ◌<◌}
use mathlib.Core.Path.{◌≡◌, refl, ◌∙◌, ap}
use mathlib.Core.List.{List, [], ◌∷◌, ◌++◌, append_assoc, append-nil}
use mathlib.Core.Logic.{dite}
use native.Mathlib.Omega.{arith}
use native.Mathlib.Nat.{pow-suc}
use native.Mathlib.Numerals.{add-one}
use native.Mathlib.Decide.{dec_lt}
use borrow.Author.Tests.{lt-ltb, le-ltb}
use lib.ListN.{length, get_or, take, drop, set, length-append}
use lib.Seq.{sets, take-suc}
use Rattle.lists.proofs.Sets.{sets_then, stored_length, drop-set}
use Rattle.listing.specs.Text.{spelled, decimal, spaced, Wrote}

-- more turns than the number change nothing
enough : (f g n : ℕ) (behind : List ℕ) → n < f → n < g → spelled f n behind ≡ spelled g n behind
unfolding spelled
enough zero g n behind h k = absurd (omega arith)
enough (suc f) zero n behind h k = absurd (omega arith)
enough (suc f) (suc g) n behind h k =
    dite (dec_lt n 10)
    (λ l. rw (lt-ltb n 10 l))
    (λ l. rw (le-ltb n 10 (omega arith)) (enough f g (n / 10) ((48 + n % 10) ∷ behind) (omega arith) (omega arith)))

-- a last digit is taken off
pub spelled_more : (n : ℕ) (behind : List ℕ) → 9 < n → spelled (suc n) n behind ≡ spelled (suc (n / 10)) (n / 10) ((48 + n % 10) ∷ behind)
unfolding spelled
spelled_more n behind h = rw (le-ltb n 10 h) (enough n (suc (n / 10)) (n / 10) ((48 + n % 10) ∷ behind) (omega arith) (omega arith))

-- the last of them
pub spelled_last : (n : ℕ) (behind : List ℕ) → n ≤ 9 → spelled (suc n) n behind ≡ (48 + n) ∷ behind
unfolding spelled
spelled_last n behind h = rw (lt-ltb n 10 (omega arith))

-- a number of f digits that has more than one
pub shorter : (f n : ℕ) → n < 10 ^ f → 9 < n → (2 ≤ f) × (n / 10 < 10 ^ (f - 1))
shorter zero n h k = absurd (omega arith)
shorter (suc zero) n h k = absurd (omega arith)
shorter (suc (suc f)) n h k =
    let e : 10 ^ suc (suc f) ≡ 10 ^ suc f * 10 = pow-suc 10 (suc f) in
    let q : suc (suc f) - 1 ≡ suc f = omega arith in
    (omega arith, rw q (omega arith))

-- one number more
spaced_more : (ns : List ℕ) (n : ℕ) → spaced (ns ++ (n ∷ [])) ≡ spaced ns ++ (32 ∷ decimal n)
unfolding spaced
spaced_more [] n = rw append-nil
spaced_more (x ∷ ns) n = rw (spaced_more ns n, append_assoc)

-- a store in front of what stands from place f on
pub in_front : (l : List ℕ) (f v : ℕ) → 1 ≤ f → f ≤ length l → drop (f - 1) (set l (f - 1) v) ≡ v ∷ drop f l
in_front l f v h k =
    let e : suc (f - 1) ≡ f = omega arith in
    drop-set l (f - 1) v (omega arith) ∙ ap (λ (i : ℕ). v ∷ drop i l) e

-- the numbers up to one more
pub spaced-take : (ns : List ℕ) (i : ℕ) → i < length ns → spaced (take (i + 1) ns) ≡ (spaced (take i ns) ++ (32 ∷ [])) ++ decimal (get_or ns i 0)
spaced-take ns i h = rw (add-one, take-suc ns i 0 h, spaced_more, append_assoc)

-- texts written one behind the other are one text
pub then : {o o1 o2 : List ℕ} {at e1 e2 : ℕ} (u v : List ℕ) → Wrote o at o1 e1 u → Wrote o1 e1 o2 e2 v → Wrote o at o2 e2 (u ++ v)
then {o} {o1} {o2} {at} {e1} {e2} u v w x =
    record {
      ends = omega (arith, w.ends, x.ends, length-append u v);
      bytes = sets_then o at (length u) u v refl w.bytes (x.bytes ∙ ap (λ (e : ℕ). sets o1 e v) w.ends);
    }

-- an empty text
pub wrote_nothing : (o : List ℕ) (at : ℕ) → Wrote o at o at []
wrote_nothing o at = record { ends = omega arith; bytes = refl }

-- a text leaves the length as it was
pub wrote_length : {o o1 : List ℕ} {at e : ℕ} (u : List ℕ) → Wrote o at o1 e u → length o1 ≡ length o
wrote_length {o} {at = at} u w = stored_length o at u w.bytes
