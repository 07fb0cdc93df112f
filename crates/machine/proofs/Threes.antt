-- Three columns side by side: they are written row by row, and each is read at its place.
use Prim.Native.Nat.{ℕ, zero, suc, ◌+◌, ◌-◌, ◌*◌, ◌≤◌, ◌<◌}
use mathlib.Core.Path.{◌≡◌, refl, ◌∙◌, ap}
use mathlib.Core.List.{List, [], ◌∷◌, ◌++◌}
use native.Mathlib.Omega.{arith}
use lib.ListN.{length, get_or, drop, get_or-append}
use lib.Seq.{sets, sets-eq, length-sets, get_or-append-add, get_or-drop}
use Rattle.lists.specs.Tab.{joined, blank}
use Rattle.lists.proofs.Tab.{length-blank, get_or-blank}
use Rattle.lists.proofs.Joined.{length-joined, get_or-joined, joined_front}
use Rattle.machine.specs.Chart.{threes}

module _ (xs ys zs : List ℕ) where
  -- the three numbers of row i
  abbrev row : ℕ → List ℕ
  row i = get_or xs i 0 ∷ get_or ys i 0 ∷ get_or zs i 0 ∷ []

  -- three for each row
  length-rows : (n : ℕ) → length (joined n row) ≡ 3 * n
  length-rows n = length-joined 3 row (λ i. refl) n

  -- no row is written yet
  pub threes_none : threes xs ys zs 0 ≡ blank 192 0
  unfolding threes joined
  threes_none = refl

  -- 192 places in all
  pub length-threes : (n : ℕ) → length (threes xs ys zs n) ≡ 192
  unfolding threes
  length-threes n = length-sets (blank 192 0) 0 (joined n row) ∙ length-blank 192 0

  -- one row more
  pub threes_more : (i : ℕ) (out next : List ℕ) → out ≡ threes xs ys zs i → next ≡ sets out (3 * i) (row i) → next ≡ threes xs ys zs (i + 1)
  unfolding threes
  threes_more i out next e f = joined_front 3 row (λ i. refl) (blank 192 0) i e f

  -- the rows, and the blank places behind them
  threes-eq : (n : ℕ) → n ≤ 64 → threes xs ys zs n ≡ joined n row ++ drop (3 * n) (blank 192 0)
  unfolding threes
  threes-eq n h =
      let l = length-rows n in
      let none : List ℕ = blank 192 0 in
      let fits : 0 + length (joined n row) ≤ length none = omega (arith, length-blank {A = ℕ} 192 0) in
      let at : 0 + length (joined n row) ≡ 3 * n = omega arith in
      sets-eq (joined n row) none 0 fits ∙ ap (λ (k : ℕ). joined n row ++ drop k (blank 192 0)) at

  module _ (n : ℕ) (few : n ≤ 64) where
    -- number j of row i
    get_or-threes : (i j : ℕ) → i < n → j < 3 → get_or (threes xs ys zs n) (3 * i + j) 0 ≡ get_or (row i) j 0
    get_or-threes i j h l =
        rw (threes-eq n few)
        (get_or-append (joined n row) (drop (3 * n) (blank 192 0)) 0 (3 * i + j) (omega (arith, length-rows n)) ∙ get_or-joined 3 row (λ i. refl) n i j 0 h l)

    -- that is, of each of the three columns
    pub threes_first : (i : ℕ) → i < n → get_or (threes xs ys zs n) (3 * i + 0) 0 ≡ get_or xs i 0
    threes_first i h = get_or-threes i 0 h (omega arith)

    pub threes_second : (i : ℕ) → i < n → get_or (threes xs ys zs n) (3 * i + 1) 0 ≡ get_or ys i 0
    threes_second i h = get_or-threes i 1 h (omega arith)

    pub threes_third : (i : ℕ) → i < n → get_or (threes xs ys zs n) (3 * i + 2) 0 ≡ get_or zs i 0
    threes_third i h = get_or-threes i 2 h (omega arith)

    -- what is known of the three at row i is known at each of its places
    pub threes_at : (f : ℕ → ℕ) (i : ℕ) → i < n → get_or xs i 0 ≡ f 0 → get_or ys i 0 ≡ f 1 → get_or zs i 0 ≡ f 2 → (j : ℕ) → j < 3 → get_or (threes xs ys zs n) (3 * i + j) 0 ≡ f j
    threes_at f i h x y z zero l = threes_first i h ∙ x
    threes_at f i h x y z (suc zero) l = threes_second i h ∙ y
    threes_at f i h x y z (suc (suc zero)) l = threes_third i h ∙ z
    threes_at f i h x y z (suc (suc (suc j))) l = absurd (omega arith)

    -- behind the rows there is nothing
    pub threes_rest : (k : ℕ) → 3 * n ≤ k → get_or (threes xs ys zs n) k 0 ≡ 0
    threes_rest k h =
        let at : k ≡ length (joined n row) + (k - 3 * n) = omega (arith, length-rows n) in
        rw (threes-eq n few)
        (ap (λ (p : ℕ). get_or (joined n row ++ drop (3 * n) (blank 192 0)) p 0) at
        ∙ get_or-append-add (joined n row) (drop (3 * n) (blank 192 0)) (k - 3 * n) 0
        ∙ get_or-drop (3 * n) (blank 192 0) (k - 3 * n) 0
        ∙ get_or-blank 192 0 (3 * n + (k - 3 * n)))
