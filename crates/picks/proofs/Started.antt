-- A section that starts runs on: once it has begun, the pick is the same, if the ceiling of its resource is no worse than its rank.
use Prim.Native.Nat.{ℕ, zero, suc, ◌≤◌, ◌<◌}
use mathlib.Core.Path.{◌≡◌, refl, sym, ◌∙◌, ap}
use mathlib.Core.Bool.{Bool, true, false, not, ◌&&◌}
use mathlib.Core.List.{List}
use mathlib.Core.Logic.{dite}
use native.Mathlib.Omega.{arith}
use native.Mathlib.Decide.{ℕ_discrete}
use borrow.Author.Tests.{ltb-true, ltb-false, lt-ltb, eqb-true, eqb-false}
use lib.ListN.{get_or}
use lib.Dec.{ltb, eqb}
use Rattle.lists.proofs.Tests.{not_both, both}
use Rattle.chain.specs.declared.Place.{Place}
use Rattle.chain.specs.declared.Place.TheVariants.{Idle, Waiting, Running}
use Rattle.chain.specs.declared.Job.{Job}
use Rattle.chain.specs.Job.{job_at}
use Rattle.picks.specs.Pick.{gtb, home, section_on, stage_on, waits, holds, ready, first_on, last_on, stage_for, pick}
use Rattle.picks.proofs.Bests.{smaller_first, larger_first, IsBest, best_is, best_passes, best_first}
use Rattle.picks.proofs.Picked.{chosen_one, Alike, test_same, begun_last_runs}

-- a section is no stage
not_stage : (homes : List ℕ) (q i : ℕ) (p : Place) → section_on homes q i p ≡ true → stage_on homes q i p ≡ true → ⊥
unfolding section_on stage_on
not_stage homes q i Idle a b = not_both a refl
not_stage homes q i (Waiting u j) a b = not_both a refl
not_stage homes q i (Running j l) a b = go (eqb j 1) a b
  where
    go : (s : Bool) → (s && eqb (home homes i j) q) ≡ true → (not s && eqb (home homes i j) q) ≡ true → ⊥
    go true a b = not_both b refl
    go false a b = not_both a refl

-- a section that does not wait has begun
pub begun_there : (homes ranks tops : List ℕ) (n : ℕ) (js : List Job) (q i : ℕ) → section_on homes q i (job_at js i).place ≡ true → waits homes ranks tops n js q i ≡ false → 0 < (job_at js i).begun
unfolding waits
begun_there homes ranks tops n js q i on w =
    let k = eqb-false (job_at js i).begun 0 (rw on at w) in
    omega arith

-- in js processor q picks row x, whose section has not begun; in ks it has begun after all others there, and those are as in js
module _ (homes ranks tops : List ℕ) (n : ℕ) (js ks : List Job) (q x : ℕ) (picks : pick homes ranks tops n js q ≡ suc x) (free : waits homes ranks tops n js q x ≡ true) where
  -- a section not begun is picked as the best of those
  first_is : first_on homes ranks tops n js q ≡ suc x
  unfolding pick last_on stage_for waits holds ready
  first_is =
      let (on, z) = both (section_on homes q x (job_at js x).place) (eqb (job_at js x).begun 0) free in
      let f = first_on homes ranks tops n js q in
      chosen_one (λ r. r ≡ suc x → f ≡ suc x) f (last_on homes ranks tops n js q) (stage_for homes ranks tops n js q) _
      (λ e. e)
      (λ e.
      let h = both (section_on homes q x (job_at js x).place) (ltb 0 (job_at js x).begun) (best_passes gtb _ _ larger_first n x e).1 in
      absurd (omega (arith, eqb-true (job_at js x).begun 0 z, ltb-true 0 (job_at js x).begun h.1)))
      (λ e. absurd (not_stage homes q x (job_at js x).place on (best_passes ltb _ _ smaller_first n x e).1))
      picks

  module _ (on : section_on homes q x (job_at ks x).place ≡ true) (alike : (i : ℕ) → i < n → (i ≡ x → ⊥) → Alike homes q ks js i)
      (after : (i : ℕ) → i < n → (job_at js i).begun < (job_at ks x).begun) where
    -- it is one of n rows, and holds its resource in ks
    below : x < n
    unfolding first_on
    below = (best_passes ltb _ _ smaller_first n x first_is).0

    held : holds homes ranks tops n ks q x ≡ true
    unfolding holds
    held = rw on (lt-ltb 0 (job_at ks x).begun (omega (arith, after x below)))

    -- it is the one begun last
    last_is : last_on homes ranks tops n ks q ≡ suc x
    unfolding last_on holds
    last_is = go (last_on homes ranks tops n ks q) (best_is gtb (holds homes ranks tops n ks q) (λ i. (job_at ks i).begun) larger_first n)
      where
        go : (b : ℕ) → IsBest gtb (holds homes ranks tops n ks q) (λ i. (job_at ks i).begun) n b → b ≡ suc x
        go zero h = absurd (not_both held (h x below))
        go (suc y) (l, h, first) =
            dite (ℕ_discrete y x)
            (λ e. ap suc e)
            (λ k.
            let a = alike y l k in
            let on = (both (section_on homes q y (job_at ks y).place) (ltb 0 (job_at ks y).begun) h).0 in
            absurd (omega (arith, after y l, a.begun (sym a.section ∙ on), ltb-false (job_at ks y).begun (job_at ks x).begun (first x below held))))

    -- a section that waits there has waited before, and is no better ranked
    pub started_runs : get_or tops x 0 ≤ get_or ranks x 0 → pick homes ranks tops n ks q ≡ suc x
    unfolding first_on waits holds
    started_runs top = begun_last_runs homes ranks tops n ks q x last_is (λ z e clear. go z e (clear x below held))
      where
        go : (z : ℕ) → first_on homes ranks tops n ks q ≡ suc z → get_or ranks z 0 < get_or tops x 0 → ⊥
        go z e less =
            let (l, w) = best_passes ltb _ _ smaller_first n z e in
            let none = (both (section_on homes q z (job_at ks z).place) (eqb (job_at ks z).begun 0) w).1 in
            let apart : z ≡ x → ⊥ = λ d. omega (arith, after x below, eqb-true (job_at ks z).begun 0 none, ap (λ i. (job_at ks i).begun) d) in
            let was = sym (test_same homes ks js q z (alike z l apart) (λ b. eqb b 0)) ∙ w in
            omega (arith, ltb-false (get_or ranks z 0) (get_or ranks x 0) (best_first ltb _ _ smaller_first n x first_is z l was))
