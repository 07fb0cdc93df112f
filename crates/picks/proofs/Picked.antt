-- What a processor runs, in the paper's words, and what the choice depends on.
use Prim.Native.Nat.{ℕ, zero, suc, ◌<◌}
use mathlib.Core.Path.{◌≡◌, refl, sym, ◌∙◌, ap}
use mathlib.Core.Bool.{Bool, true, false, cond, not, ◌&&◌, ◌||◌, or-true}
use mathlib.Core.List.{List}
use native.Mathlib.Omega.{arith}
use borrow.Author.Tests.{ltb-false, lt-ltb, eqb-true, eqb-false}
use lib.ListN.{get_or}
use lib.Dec.{ltb, eqb}
use Rattle.lists.proofs.Tests.{not_both, both}
use Rattle.chain.specs.declared.Place.{Place}
use Rattle.chain.specs.declared.Place.TheVariants.{Idle, Waiting, Running}
use Rattle.chain.specs.declared.Job.{Job}
use Rattle.chain.specs.Job.{job_at}
use Rattle.picks.specs.Pick.{gtb, home, section_on, stage_on, chosen, waits, holds, ready, first_on, last_on, stage_for, clear, pick}
use Rattle.picks.specs.Offer.{Offer, with_key, lowest, choice, Offered}
use Rattle.picks.proofs.Cases.{clear_told}
use Rattle.picks.proofs.Bests.{smaller_first, larger_first, best_passes, best_none, best_same, every_all, every_same, below_lowest}

-- a stage is chosen where there is no section; the best section not yet begun, if none is begun or it is clear; and otherwise the one begun last
pub chosen_stage : (x y s : ℕ) (b : Bool) → x ≡ 0 → y ≡ 0 → chosen x y s b ≡ s
unfolding chosen
chosen_stage x y s b e d = rw (e, d)

pub chosen_first : (x y s : ℕ) (b : Bool) → (x ≡ 0 → ⊥) → ((y ≡ 0 → ⊥) → b ≡ true) → chosen x y s b ≡ x
unfolding chosen
chosen_first zero y s b k h = absurd (k refl)
chosen_first (suc x) zero s b k h = refl
chosen_first (suc x) (suc y) s b k h = rw (h (λ e. omega arith))

pub chosen_last : (x y s : ℕ) (b : Bool) → (y ≡ 0 → ⊥) → ((x ≡ 0 → ⊥) → b ≡ false) → chosen x y s b ≡ y
unfolding chosen
chosen_last x zero s b k h = absurd (k refl)
chosen_last zero (suc y) s b k h = refl
chosen_last (suc x) (suc y) s b k h = rw (h (λ e. omega arith))

-- what holds of the three holds of the chosen one
pub chosen_one : (P : ℕ → Type 0) (x y s : ℕ) (b : Bool) → P x → P y → P s → P (chosen x y s b)
unfolding chosen
chosen_one P zero zero s b first last stage = stage
chosen_one P zero (suc y) s b first last stage = last
chosen_one P (suc x) zero s b first last stage = first
chosen_one P (suc x) (suc y) s true first last stage = first
chosen_one P (suc x) (suc y) s false first last stage = last

-- none is chosen only where there is none
chosen_none : (x y s : ℕ) (b : Bool) → chosen x y s b ≡ 0 → (x ≡ 0) × (y ≡ 0) × (s ≡ 0)
unfolding chosen
chosen_none zero zero s b e = (refl, refl, e)
chosen_none zero (suc y) s b e = absurd (omega arith)
chosen_none (suc x) zero s b e = absurd (omega arith)
chosen_none (suc x) (suc y) s true e = absurd (omega arith)
chosen_none (suc x) (suc y) s false e = absurd (omega arith)

-- row i runs a part on processor q
pub record Runs (homes : List ℕ) (js : List Job) (q i : ℕ) : Type 0 where
  pub part : ℕ
  pub left : ℕ
  pub place_is : (job_at js i).place ≡ Running part left
  pub home_is : home homes i part ≡ q

-- a part on processor q runs there
on_runs : (homes : List ℕ) (js : List Job) (q i : ℕ) → (section_on homes q i (job_at js i).place || stage_on homes q i (job_at js i).place) ≡ true → Runs homes js q i
unfolding section_on stage_on
on_runs homes js q i = go (job_at js i).place refl
  where
    there : (s t : Bool) → (s && t || not s && t) ≡ true → t ≡ true
    there true true h = refl
    there true false h = h
    there false t h = h

    go : (p : Place) → (job_at js i).place ≡ p → (section_on homes q i p || stage_on homes q i p) ≡ true → Runs homes js q i
    go Idle e h = absurd (not_both h refl)
    go (Waiting u j) e h = absurd (not_both h refl)
    go (Running j l) e h = record { part = j; left = l; place_is = e; home_is = eqb-true (home homes i j) q (there (eqb j 1) _ h) }

module _ (homes ranks tops : List ℕ) (n : ℕ) (js : List Job) (q : ℕ) where
  -- a row that is picked runs a part there
  pub pick_runs : (i : ℕ) → pick homes ranks tops n js q ≡ suc i → (i < n) × Runs homes js q i
  unfolding pick first_on last_on stage_for waits holds ready
  pick_runs =
      chosen_one (λ r. (i : ℕ) → r ≡ suc i → (i < n) × Runs homes js q i) _ _ _ _
      (λ i e. let (l, h) = best_passes ltb _ _ smaller_first n i e in (l, section_runs i (eqb (job_at js i).begun 0) h))
      (λ i e. let (l, h) = best_passes gtb _ _ larger_first n i e in (l, section_runs i (ltb 0 (job_at js i).begun) h))
      (λ i e. let (l, h) = best_passes ltb _ _ smaller_first n i e in (l, on_runs homes js q i (rw h (or-true (section_on homes q i (job_at js i).place)))))
    where
      section_runs : (i : ℕ) (b : Bool) → (section_on homes q i (job_at js i).place && b) ≡ true → Runs homes js q i
      section_runs i b h = on_runs homes js q i (rw (both (section_on homes q i (job_at js i).place) b h).0)

  -- a processor that runs nothing has nothing to run
  pub idle_none : pick homes ranks tops n js q ≡ 0 → (i : ℕ) → i < n → (section_on homes q i (job_at js i).place ≡ false) × (stage_on homes q i (job_at js i).place ≡ false)
  unfolding pick first_on last_on stage_for waits holds ready
  idle_none e i l =
      let (x, y, s) = chosen_none (first_on homes ranks tops n js q) (last_on homes ranks tops n js q) (stage_for homes ranks tops n js q) _ e in
      (neither (section_on homes q i (job_at js i).place) (job_at js i).begun (best_none ltb _ _ smaller_first n x i l) (best_none gtb _ _ larger_first n y i l), best_none ltb _ _ smaller_first n s i l)
    where
      neither : (s : Bool) (b : ℕ) → (s && eqb b 0) ≡ false → (s && ltb 0 b) ≡ false → s ≡ false
      neither true b h k = absurd (eqb-false b 0 h (omega (arith, ltb-false 0 b k)))
      neither false b h k = refl

  -- "its rank is strictly better than the ceilings of all resources held there"
  abbrev Clear : ℕ → Type 0
  Clear x = (i : ℕ) → i < n → holds homes ranks tops n js q i ≡ true → get_or ranks x 0 < get_or tops i 0

  -- as the test has it
  clear_yes : (x : ℕ) → Clear x → clear homes ranks tops n js q (suc x) ≡ true
  unfolding clear
  clear_yes x h = every_all _ n (λ i l. go i l (holds homes ranks tops n js q i) refl)
    where
      go : (i : ℕ) → i < n → (t : Bool) → holds homes ranks tops n js q i ≡ t → (not t || ltb (get_or ranks x 0) (get_or tops i 0)) ≡ true
      go i l true e = lt-ltb _ _ (h i l e)
      go i l false e = refl

  -- PCP: "the best-ranked released section not yet begun starts if nothing begun is unfinished there, or if its rank is
  -- strictly better than the ceilings of all resources held there;
  pub starts_clear : (x : ℕ) → first_on homes ranks tops n js q ≡ suc x → Clear x → pick homes ranks tops n js q ≡ suc x
  unfolding pick
  starts_clear x e h = rw e (chosen_first (suc x) _ _ _ (λ d. omega arith) (λ d. clear_yes x h))

  -- nothing begun is unfinished there
  pub starts_free : (x : ℕ) → first_on homes ranks tops n js q ≡ suc x → last_on homes ranks tops n js q ≡ 0 → pick homes ranks tops n js q ≡ suc x
  unfolding last_on
  starts_free x e d = starts_clear x e (λ i l h. absurd (not_both h (best_none gtb _ _ larger_first n d i l)))

  -- otherwise the section begun last among the unfinished runs"
  pub begun_last_runs : (y : ℕ) → last_on homes ranks tops n js q ≡ suc y → ((x : ℕ) → first_on homes ranks tops n js q ≡ suc x → Clear x → ⊥) → pick homes ranks tops n js q ≡ suc y
  unfolding pick clear
  begun_last_runs y e k = rw e (chosen_last _ (suc y) _ _ (λ d. omega arith) (λ d. blocked (first_on homes ranks tops n js q) refl))
    where
      told : (x : ℕ) → first_on homes ranks tops n js q ≡ suc x → (t : Bool) → clear homes ranks tops n js q (suc x) ≡ t → t ≡ false
      told x d true h = absurd (k x d (clear_told homes ranks tops n js q x h))
      told x d false h = refl

      blocked : (f : ℕ) → first_on homes ranks tops n js q ≡ f → clear homes ranks tops n js q f ≡ false
      blocked zero d = refl
      blocked (suc x) d = told x d (clear homes ranks tops n js q (suc x)) refl

  -- NPP, where every ceiling is 0
  module _ (flat : (i : ℕ) → i < n → get_or tops i 0 ≡ 0) where
    -- "a begun section runs to its end;
    pub npp_begun_runs : (y : ℕ) → last_on homes ranks tops n js q ≡ suc y → pick homes ranks tops n js q ≡ suc y
    unfolding last_on
    npp_begun_runs y e =
        let (l, h) = best_passes gtb _ _ larger_first n y e in
        begun_last_runs y e (λ x d c. omega (arith, flat y l, c y l h))

    -- then the best-ranked one starts"
    pub npp_best_starts : (x : ℕ) → last_on homes ranks tops n js q ≡ 0 → first_on homes ranks tops n js q ≡ suc x → pick homes ranks tops n js q ≡ suc x
    npp_best_starts x d e = starts_free x e d

  -- the pick is what `choose` gives for what the processor has to choose from
  pub pick_is : ((i : ℕ) → i < n → get_or ranks i 0 < 64) → (o : Offer) → Offered homes ranks tops js n o q → choice o.first o.last o.stage o.held ≡ pick homes ranks tops n js q
  unfolding pick first_on last_on stage_for clear chosen with_key choice
  pick_is ranked o was = rw (was.first_is, was.last_is, was.stage_is, was.held_is) (go (first_on homes ranks tops n js q) refl (last_on homes ranks tops n js q) (stage_for homes ranks tops n js q))
    where
      go : (f : ℕ) → first_on homes ranks tops n js q ≡ f → (y s : ℕ)
          → choice (with_key (λ i. get_or ranks i 0) f) (with_key (λ i. (job_at js i).begun) y) (with_key (λ i. get_or ranks i 0) s) (lowest (holds homes ranks tops n js q) (λ i. get_or tops i 0) n)
          ≡ chosen f y s (clear homes ranks tops n js q f)
      go zero e zero zero = refl
      go zero e zero (suc s) = refl
      go zero e (suc y) s = refl
      go (suc x) e zero s = refl
      go (suc x) e (suc y) s =
          ap (λ (b : Bool). cond b (suc x) (suc y)) (below_lowest _ _ (get_or ranks x 0) (ranked x (best_passes ltb _ _ smaller_first n x e).0) n)

-- the places of row i are on processor q alike, and the section there is begun alike
pub record Alike (homes : List ℕ) (q : ℕ) (js ks : List Job) (i : ℕ) : Type 0 where
  pub section : section_on homes q i (job_at js i).place ≡ section_on homes q i (job_at ks i).place
  pub stage : stage_on homes q i (job_at js i).place ≡ stage_on homes q i (job_at ks i).place
  pub begun : section_on homes q i (job_at ks i).place ≡ true → (job_at js i).begun ≡ (job_at ks i).begun

-- a part that is a section on processor q
pub section_here : (homes : List ℕ) (q i j l : ℕ) → section_on homes q i (Running j l) ≡ true → (j ≡ 1) × (home homes i j ≡ q)
unfolding section_on
section_here homes q i j l h =
    let (s, there) = both (eqb j 1) (eqb (home homes i j) q) h in
    (eqb-true j 1 s, eqb-true (home homes i j) q there)

module _ (homes : List ℕ) (q : ℕ) (js ks : List Job) (i : ℕ) where
  -- equal jobs are alike
  pub alike_job : job_at js i ≡ job_at ks i → Alike homes q js ks i
  alike_job e =
      record {
        section = ap (λ (x : Job). section_on homes q i x.place) e;
        stage = ap (λ (x : Job). stage_on homes q i x.place) e;
        begun = λ h. ap (λ (x : Job). x.begun) e;
      }

  -- what is left of a part makes no difference, nor does when a stage, or a section elsewhere, was begun
  pub alike_part : (j l m : ℕ) → (job_at js i).place ≡ Running j l → (job_at ks i).place ≡ Running j m → (section_on homes q i (job_at ks i).place ≡ true → (job_at js i).begun ≡ (job_at ks i).begun) → Alike homes q js ks i
  unfolding section_on stage_on
  alike_part j l m a b e =
      record {
        section = ap (section_on homes q i) a ∙ sym (ap (section_on homes q i) b);
        stage = ap (stage_on homes q i) a ∙ sym (ap (stage_on homes q i) b);
        begun = e;
      }

-- a test of when a section was begun
pub test_same : (homes : List ℕ) (js ks : List Job) (q i : ℕ) → Alike homes q js ks i → (f : ℕ → Bool) → (section_on homes q i (job_at js i).place && f (job_at js i).begun) ≡ (section_on homes q i (job_at ks i).place && f (job_at ks i).begun)
test_same homes js ks q i alike f = rw alike.section (go (section_on homes q i (job_at ks i).place) refl)
  where
    go : (t : Bool) → section_on homes q i (job_at ks i).place ≡ t → (t && f (job_at js i).begun) ≡ (t && f (job_at ks i).begun)
    go true e = ap f (alike.begun e)
    go false e = refl

-- a pick depends on nothing else
module _ (homes ranks tops : List ℕ) (n : ℕ) (js ks : List Job) (q : ℕ) (alike : (i : ℕ) → i < n → Alike homes q js ks i) where
  -- so the tests say the same,
  tests_same : (f : ℕ → Bool) (i : ℕ) → i < n → (section_on homes q i (job_at js i).place && f (job_at js i).begun) ≡ (section_on homes q i (job_at ks i).place && f (job_at ks i).begun)
  tests_same f i l = test_same homes js ks q i (alike i l) f

  -- and so does the test for a start,
  clear_same : (x : ℕ) → clear homes ranks tops n js q x ≡ clear homes ranks tops n ks q x
  unfolding clear holds
  clear_same zero = refl
  clear_same (suc x) = every_same _ _ n (λ i l. ap (λ (t : Bool). not t || ltb (get_or ranks x 0) (get_or tops i 0)) (tests_same (ltb 0) i l))

  -- and the pick is the same
  pub pick_same : pick homes ranks tops n js q ≡ pick homes ranks tops n ks q
  unfolding pick first_on last_on stage_for waits holds ready
  pick_same =
      let first = best_same smaller_first (waits homes ranks tops n js q) (waits homes ranks tops n ks q) (λ i. get_or ranks i 0) (λ i. get_or ranks i 0) n (tests_same (λ b. eqb b 0)) (λ i l h. refl) in
      let last = best_same larger_first (holds homes ranks tops n js q) (holds homes ranks tops n ks q) (λ i. (job_at js i).begun) (λ i. (job_at ks i).begun) n (tests_same (ltb 0)) (λ i l h. (alike i l).begun (both _ (ltb 0 (job_at ks i).begun) h).0) in
      let stage = best_same smaller_first (ready homes ranks tops n js q) (ready homes ranks tops n ks q) (λ i. get_or ranks i 0) (λ i. get_or ranks i 0) n (λ i l. (alike i l).stage) (λ i l h. refl) in
      rw (first, last, stage) (ap (chosen _ _ _) (clear_same _))
