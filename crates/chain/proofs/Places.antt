-- A job's place: which part it runs, or that it runs none.
use Prim.Native.Nat.{ℕ, ◌<◌}
use mathlib.Core.Path.{◌≡◌, refl, ap}
use mathlib.Core.Bool.{false}
use native.Mathlib.Omega.{arith}
use Rattle.chain.specs.declared.Place.{Place}
use Rattle.chain.specs.declared.Place.TheVariants.{Idle, Waiting, Running}
use Rattle.chain.specs.Job.{is_idle}
use Rattle.chain.specs.Good.{part_of}

-- what holds of a task that is idle and of one that waits holds of one that does not run
pub rests : (Q : Place → Type 0) → Q Idle → ((u j : ℕ) → Q (Waiting u j)) → (p : Place) → ((j l : ℕ) → p ≡ Running j l → ⊥) → Q p
rests Q e w Idle h = e
rests Q e w (Waiting u j) h = w u j
rests Q e w (Running j l) h = absurd (h j l refl)

-- a running part is one of the three
pub part_small : (p : Place) (j l : ℕ) → part_of p < 3 → p ≡ Running j l → j < 3
part_small p j l h e = omega (arith, ap part_of e)

-- a place other than idle is not idle
pub idle_no : (p : Place) → (p ≡ Idle → ⊥) → is_idle p ≡ false
unfolding is_idle
idle_no Idle h = absurd (h refl)
idle_no (Waiting u j) h = refl
idle_no (Running j l) h = refl
