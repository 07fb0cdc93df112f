-- Laws of `busy`.
use Prim.Native.Nat.{ℕ, zero, suc, ◌+◌, ◌≤◌}
use mathlib.Core.Path.{◌≡◌, refl}
use mathlib.Core.List.{List, [], ◌∷◌, ◌++◌}
use native.Mathlib.Omega.{arith}
use Rattle.lists.specs.Tab.{tab, joined}
use Rattle.lists.specs.Total.{total}
use Rattle.run.specs.Brought.{busy}

-- a byte that is not 0 is one
pub busy_one : (b : ℕ) → 1 ≤ b → busy (b ∷ []) ≡ 1
unfolding busy
busy_one zero h = absurd (omega arith)
busy_one (suc b) h = refl

-- bytes behind others
busy-append : (us vs : List ℕ) → busy (us ++ vs) ≡ busy us + busy vs
unfolding busy
busy-append [] vs = omega arith
busy-append (zero ∷ us) vs = busy-append us vs
busy-append (suc u ∷ us) vs = omega (arith, busy-append us vs)

-- byte by byte
pub busy_tab : (n : ℕ) (f : ℕ → ℕ) → busy (tab n f) ≡ total n (λ k. busy (f k ∷ []))
unfolding busy tab total
busy_tab zero f = refl
busy_tab (suc n) f = omega (arith, busy-append (tab n f) (f n ∷ []), busy_tab n f)

-- list by list
pub busy_joined : (n : ℕ) (f : ℕ → List ℕ) → busy (joined n f) ≡ total n (λ k. busy (f k))
unfolding busy joined total
busy_joined zero f = refl
busy_joined (suc n) f = omega (arith, busy-append (joined n f) (f n), busy_joined n f)
