-- What a pick says of the rows, in its three cases: a section starts, the section begun last goes on, or there is no section.
use Prim.Native.Nat.{ℕ, zero, suc, ◌≤◌, ◌<◌}
use mathlib.Core.Path.{◌≡◌, refl, sym, ◌∙◌, ap}
use mathlib.Core.Bool.{Bool, true, false, cond, not}
use mathlib.Core.List.{List}
use native.Mathlib.Decide.{ℕ_discrete}
use native.Mathlib.Omega.{arith}
use borrow.Author.Tests.{ltb-true, ltb-false, lt-ltb, eqb-true, eq-eqb, not-true, not-false}
use lib.ListN.{get_or}
use lib.Dec.{ltb, eqb}
use Rattle.lists.proofs.Tests.{not_both, both, neither}
use Rattle.chain.specs.declared.Place.{Place}
use Rattle.chain.specs.declared.Place.TheVariants.{Idle, Waiting, Running}
use Rattle.chain.specs.declared.Job.{Job}
use Rattle.chain.specs.Job.{job_at}
use Rattle.picks.specs.Pick.{is_section, home, section_on, stage_on, chosen, waits, holds, ready, first_on, last_on, stage_for, clear, pick}
use Rattle.picks.proofs.Bests.{smaller_first, larger_first, best_passes, best_none, best_first, every_at, every_not}

-- the job's place is a released, unfinished section on processor q; a stage there
pub record Section (homes : List ℕ) (q i : ℕ) (x : Job) : Type 0 where
  pub rest : ℕ
  pub at : x.place ≡ Running 1 rest
  pub on : home homes i 1 ≡ q

pub record Stage (homes : List ℕ) (q i : ℕ) (x : Job) : Type 0 where
  pub part : ℕ
  pub rest : ℕ
  pub at : x.place ≡ Running part rest
  pub stage : is_section part ≡ false
  pub on : home homes i part ≡ q

module _ (homes : List ℕ) (q i : ℕ) (x : Job) where
  -- the test for a section says so, and the other way round
  section_told : section_on homes q i x.place ≡ true → Section homes q i x
  unfolding section_on
  section_told = go x.place refl
    where
      go : (p : Place) → x.place ≡ p → section_on homes q i p ≡ true → Section homes q i x
      go Idle e h = absurd (not_both h refl)
      go (Waiting u j) e h = absurd (not_both h refl)
      go (Running j l) e h =
          let (s, t) = both (is_section j) (eqb (home homes i j) q) h in
          let one : j ≡ 1 = eqb-true j 1 s in
          record { rest = l; at = e ∙ ap (λ (k : ℕ). Running k l) one; on = sym (ap (home homes i) one) ∙ eqb-true (home homes i j) q t }

  told_section : Section homes q i x → section_on homes q i x.place ≡ true
  unfolding section_on
  told_section s = rw s.at (eq-eqb (home homes i 1) q s.on)

  -- and so does that for a stage
  stage_told : stage_on homes q i x.place ≡ true → Stage homes q i x
  unfolding stage_on
  stage_told = go x.place refl
    where
      go : (p : Place) → x.place ≡ p → stage_on homes q i p ≡ true → Stage homes q i x
      go Idle e h = absurd (not_both h refl)
      go (Waiting u j) e h = absurd (not_both h refl)
      go (Running j l) e h =
          let (s, t) = both (not (is_section j)) (eqb (home homes i j) q) h in
          record { part = j; rest = l; at = e; stage = not-true (is_section j) s; on = eqb-true (home homes i j) q t }

  told_stage : Stage homes q i x → stage_on homes q i x.place ≡ true
  unfolding stage_on
  told_stage s = rw (s.at, s.stage) (eq-eqb (home homes i s.part) q s.on)

module _ (homes ranks tops : List ℕ) (n : ℕ) (js : List Job) (q : ℕ) where
  -- what the row o that the processor picks is, 0 for none
  pub data Picks (o : ℕ) : Type 0 where
    -- the best section not yet begun starts, ranked above the ceilings of all that is held
    starting : (x : ℕ) → o ≡ suc x → x < n → Section homes q x (job_at js x) → (job_at js x).begun ≡ 0
        → ((i : ℕ) → i < n → Section homes q i (job_at js i) → (job_at js i).begun ≡ 0 → get_or ranks x 0 ≤ get_or ranks i 0)
        → ((i : ℕ) → i < n → Section homes q i (job_at js i) → 1 ≤ (job_at js i).begun → get_or ranks x 0 < get_or tops i 0)
        → Picks o
    -- the section begun last goes on; a ceiling that is held stops each that is not begun
    going_on : (y : ℕ) → o ≡ suc y → y < n → Section homes q y (job_at js y) → 1 ≤ (job_at js y).begun
        → ((i : ℕ) → i < n → Section homes q i (job_at js i) → 1 ≤ (job_at js i).begun → (job_at js i).begun ≤ (job_at js y).begun)
        → ((i : ℕ) → i < n → Section homes q i (job_at js i) → (job_at js i).begun ≡ 0
        → (d : ℕ) × (d < n) × Section homes q d (job_at js d) × (1 ≤ (job_at js d).begun) × (get_or tops d 0 ≤ get_or ranks i 0))
        → Picks o
    -- there is no section, and no stage
    nothing : o ≡ 0 → ((i : ℕ) → i < n → Section homes q i (job_at js i) → ⊥) → ((i : ℕ) → i < n → Stage homes q i (job_at js i) → ⊥) → Picks o
    -- there is no section: the best stage runs
    staged : (x : ℕ) → o ≡ suc x → x < n → ((i : ℕ) → i < n → Section homes q i (job_at js i) → ⊥) → Stage homes q x (job_at js x)
        → ((i : ℕ) → i < n → Stage homes q i (job_at js i) → get_or ranks x 0 ≤ get_or ranks i 0)
        → Picks o

  -- what the tests of the rule say of a row
  waits_told : (i : ℕ) → waits homes ranks tops n js q i ≡ true → Section homes q i (job_at js i) × ((job_at js i).begun ≡ 0)
  unfolding waits
  waits_told i h =
      let (s, b) = both (section_on homes q i (job_at js i).place) (eqb (job_at js i).begun 0) h in
      (section_told homes q i (job_at js i) s, eqb-true (job_at js i).begun 0 b)

  told_waits : (i : ℕ) → Section homes q i (job_at js i) → (job_at js i).begun ≡ 0 → waits homes ranks tops n js q i ≡ true
  unfolding waits
  told_waits i s b = rw (told_section homes q i (job_at js i) s) (eq-eqb (job_at js i).begun 0 b)

  holds_told : (i : ℕ) → holds homes ranks tops n js q i ≡ true → Section homes q i (job_at js i) × (1 ≤ (job_at js i).begun)
  unfolding holds
  holds_told i h =
      let (s, b) = both (section_on homes q i (job_at js i).place) (ltb 0 (job_at js i).begun) h in
      (section_told homes q i (job_at js i) s, ltb-true 0 (job_at js i).begun b)

  told_holds : (i : ℕ) → Section homes q i (job_at js i) → 1 ≤ (job_at js i).begun → holds homes ranks tops n js q i ≡ true
  unfolding holds
  told_holds i s b = rw (told_section homes q i (job_at js i) s) (lt-ltb 0 (job_at js i).begun b)

  -- "the best-ranked released section not yet begun"
  first_told : (x : ℕ) → first_on homes ranks tops n js q ≡ suc x → (x < n) × Section homes q x (job_at js x) × ((job_at js x).begun ≡ 0)
      × ((i : ℕ) → i < n → Section homes q i (job_at js i) → (job_at js i).begun ≡ 0 → get_or ranks x 0 ≤ get_or ranks i 0)
  unfolding first_on
  first_told x e =
      let (l, h) = best_passes _ _ _ smaller_first n x e in
      let (s, b) = waits_told x h in
      (l, s, b, λ i k t z. ltb-false _ _ (best_first _ _ _ smaller_first n x e i k (told_waits i t z)))

  -- where there is none, none waits
  first_none : first_on homes ranks tops n js q ≡ 0 → (i : ℕ) → i < n → Section homes q i (job_at js i) → (job_at js i).begun ≡ 0 → ⊥
  unfolding first_on
  first_none e i l s b = not_both (told_waits i s b) (best_none _ _ _ smaller_first n e i l)

  -- "the section begun last among the unfinished"
  last_told : (y : ℕ) → last_on homes ranks tops n js q ≡ suc y → (y < n) × Section homes q y (job_at js y) × (1 ≤ (job_at js y).begun)
      × ((i : ℕ) → i < n → Section homes q i (job_at js i) → 1 ≤ (job_at js i).begun → (job_at js i).begun ≤ (job_at js y).begun)
  unfolding last_on
  last_told y e =
      let (l, h) = best_passes _ _ _ larger_first n y e in
      let (s, b) = holds_told y h in
      (l, s, b, λ i k t z. ltb-false _ _ (best_first _ _ _ larger_first n y e i k (told_holds i t z)))

  -- where there is none, none is held
  last_none : last_on homes ranks tops n js q ≡ 0 → (i : ℕ) → i < n → Section homes q i (job_at js i) → 1 ≤ (job_at js i).begun → ⊥
  unfolding last_on
  last_none e i l s b = not_both (told_holds i s b) (best_none _ _ _ larger_first n e i l)

  -- "its rank is strictly better than the ceilings of all resources held there": it is, or one is held that stops it
  pub clear_told : (x : ℕ) → clear homes ranks tops n js q (suc x) ≡ true → (i : ℕ) → i < n → holds homes ranks tops n js q i ≡ true → get_or ranks x 0 < get_or tops i 0
  unfolding clear
  clear_told x h i l e = ltb-true _ _ (rw e at (every_at _ n h i l))

  -- where it is not, a ceiling that is held stops it
  clear_not : (x : ℕ) → clear homes ranks tops n js q (suc x) ≡ false → (d : ℕ) × (d < n) × Section homes q d (job_at js d) × (1 ≤ (job_at js d).begun) × (get_or tops d 0 ≤ get_or ranks x 0)
  unfolding clear
  clear_not x e =
      let (d, l, f) = every_not _ n e in
      let (h, above) = neither _ _ f in
      let (s, b) = holds_told d (not-false _ h) in
      (d, l, s, b, ltb-false _ _ above)

  -- the rule for sections, where there is one
  starts_first : (x : ℕ) → first_on homes ranks tops n js q ≡ suc x
      → ((i : ℕ) → i < n → Section homes q i (job_at js i) → 1 ≤ (job_at js i).begun → get_or ranks x 0 < get_or tops i 0) → Picks (suc x)
  starts_first x e above = let (l, s, b, best) = first_told x e in starting x refl l s b best above

  -- the section begun last goes on
  goes_last : (y : ℕ) → last_on homes ranks tops n js q ≡ suc y
      → ((i : ℕ) → i < n → Section homes q i (job_at js i) → (job_at js i).begun ≡ 0
      → (d : ℕ) × (d < n) × Section homes q d (job_at js d) × (1 ≤ (job_at js d).begun) × (get_or tops d 0 ≤ get_or ranks i 0))
      → Picks (suc y)
  goes_last y e stops = let (l, s, b, latest) = last_told y e in going_on y refl l s b latest stops

  -- both the best not yet begun and the one begun last are there
  one_of_two : (x y : ℕ) → first_on homes ranks tops n js q ≡ suc x → last_on homes ranks tops n js q ≡ suc y
      → (b : Bool) → clear homes ranks tops n js q (suc x) ≡ b → Picks (cond b (suc x) (suc y))
  one_of_two x y f e true c = starts_first x f (λ i l s b. clear_told x c i l (told_holds i s b))
  one_of_two x y f e false c =
      let (d, l, s, b, top) = clear_not x c in
      goes_last y e (λ i k t z. (d, l, s, b, omega (arith, top, (first_told x f).3 i k t z)))

  -- "the best-ranked released, unfinished stage"
  stage_runs : ((i : ℕ) → i < n → Section homes q i (job_at js i) → ⊥) → (o : ℕ) → stage_for homes ranks tops n js q ≡ o → Picks o
  unfolding stage_for ready
  stage_runs none zero e = nothing refl none (λ i l s. not_both (told_stage homes q i (job_at js i) s) (best_none _ _ _ smaller_first n e i l))
  stage_runs none (suc x) e =
      let (l, h) = best_passes _ _ _ smaller_first n x e in
      staged x refl l none (stage_told homes q x (job_at js x) h)
      (λ i k s. ltb-false _ _ (best_first _ _ _ smaller_first n x e i k (told_stage homes q i (job_at js i) s)))

  -- the pick is one of the cases
  pub pick_says : Picks (pick homes ranks tops n js q)
  unfolding pick chosen
  pick_says = go (first_on homes ranks tops n js q) refl (last_on homes ranks tops n js q) refl
    where
      no_section : first_on homes ranks tops n js q ≡ 0 → last_on homes ranks tops n js q ≡ 0 → (i : ℕ) → i < n → Section homes q i (job_at js i) → ⊥
      no_section f e i l s = elim (ℕ_discrete (job_at js i).begun 0) [ yes z ↦ first_none f i l s z | no d ↦ last_none e i l s (omega arith) ]

      go : (f : ℕ) → first_on homes ranks tops n js q ≡ f → (y : ℕ) → last_on homes ranks tops n js q ≡ y
          → Picks (chosen f y (stage_for homes ranks tops n js q) (clear homes ranks tops n js q f))
      go zero f zero e = stage_runs (no_section f e) _ refl
      go zero f (suc y) e = goes_last y e (λ i l t z. absurd (first_none f i l t z))
      go (suc x) f zero e = starts_first x f (λ i l t b. absurd (last_none e i l t b))
      go (suc x) f (suc y) e = one_of_two x y f e _ refl
