-- Laws of arrivals as numbers side by side.
use Prim.Native.Nat.{ℕ, suc, ◌+◌, ◌*◌, ◌≤◌, ◌<◌}
use mathlib.Core.Path.{◌≡◌, refl, sym, ◌∙◌, ap}
use mathlib.Core.List.{List}
use native.Mathlib.Omega.{arith}
use native.Mathlib.Nat.{zero-add}
use native.Mathlib.Numerals.{add-one}
use lib.ListN.{length, get_or}
use lib.Seq.{sets, length-sets, ext_get_or}
use Rattle.lists.specs.Tab.{joined}
use Rattle.lists.proofs.Tab.{length-tab, get_or-tab}
use Rattle.lists.proofs.Sets.{get_or-within}
use Rattle.lists.proofs.Joined.{length-joined, get_or-joined, joined_front}
use Rattle.arrivals.specs.Arrival.{Arrival, no_arrival, arrival_at, five, arrival_in, arrivals_of, flat_of}

module _ (xs : List Arrival) (out : List ℕ) where
  -- the five numbers of the arrival at place k
  abbrev numbers : ℕ → List ℕ
  numbers k = five (arrival_at xs k)

  -- no arrival is taken apart yet
  pub flat_none : out ≡ flat_of xs 0 out
  unfolding flat_of joined
  flat_none = refl

  -- the numbers of one arrival more
  pub flat_more : (k : ℕ) → sets (flat_of xs k out) (5 * k) (numbers k) ≡ flat_of xs (suc k) out
  unfolding flat_of
  flat_more k = joined_front 5 numbers (λ i. refl) out k refl refl ∙ ap (λ (n : ℕ). flat_of xs n out) (add-one k)

  -- taking them apart leaves the length as it was
  pub flat_length : (k : ℕ) → length (flat_of xs k out) ≡ length out
  unfolding flat_of
  flat_length k = length-sets out 0 (joined k numbers)

  -- number j of the arrival at place i
  flat_at : (n i j at : ℕ) → 5 * n ≤ length out → i < n → j < 5 → at ≡ 5 * i + j → get_or (flat_of xs n out) at 0 ≡ get_or (numbers i) j 0
  unfolding flat_of
  flat_at n i j at h k l e =
      let all : length (joined n numbers) ≡ 5 * n = length-joined 5 numbers (λ m. refl) n in
      ap (λ (m : ℕ). get_or (flat_of xs n out) m 0) (sym (zero-add at))
      ∙ get_or-within 0 (joined n numbers) out 0 at (omega arith) (omega arith)
      ∙ ap (λ (m : ℕ). get_or (joined n numbers) m 0) e
      ∙ get_or-joined 5 numbers (λ m. refl) n i j 0 k l

  -- arrivals that were taken apart are had back
  pub flat_back : length xs ≤ 4096 → length out ≡ 20480 → arrivals_of (flat_of xs (length xs) out) (length xs) ≡ xs
  unfolding arrivals_of arrival_in
  flat_back h l = ext_get_or no_arrival (arrivals_of flat n) xs (length-tab n (arrival_in flat)) (λ i k.
      let m : i < n = omega (arith, length-tab n (arrival_in flat)) in
      get_or-tab n (arrival_in flat) i no_arrival m
      ∙ rw (at i 0 (5 * i) m (omega arith) (omega arith), at i 1 (5 * i + 1) m (omega arith) refl, at i 2 (5 * i + 2) m (omega arith) refl, at i 3 (5 * i + 3) m (omega arith) refl, at i 4 (5 * i + 4) m (omega arith) refl))
    where
      n : ℕ
      n = length xs

      flat : List ℕ
      flat = flat_of xs n out

      at : (i j k : ℕ) → i < n → j < 5 → k ≡ 5 * i + j → get_or flat k 0 ≡ get_or (numbers i) j 0
      at i j k = flat_at n i j k (omega arith)
