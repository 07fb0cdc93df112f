-- What the arrivals before a tick add to what is counted of the jobs: "run plus owed equals all lengths brought by arrivals before f + w",
-- and the jobs ended and those still there are as many as these arrivals.
use Prim.Native.Nat.{ℕ, suc, ◌+◌, ◌-◌, ◌≤◌, ◌<◌}
use mathlib.Core.Path.{◌≡◌, refl, sym, ◌∙◌}
use mathlib.Core.Bool.{Bool, true, false, cond, not}
use mathlib.Core.List.{List}
use mathlib.Core.Logic.{dite}
use Rattle.std.specs.Prelude.{None, Some}
use native.Mathlib.Omega.{arith}
use native.Mathlib.Decide.{dec_lt}
use borrow.Author.Tests.{ltb-true, ltb-false, lt-ltb, le-ltb, eq-eqb}
use lib.ListN.{length}
use lib.Dec.{ltb}
use Rattle.lists.specs.First.{first}
use Rattle.lists.proofs.First.{first_no, first_yes}
use Rattle.chain.specs.declared.Job.{Job}
use Rattle.chain.specs.Job.{job_at, is_idle}
use Rattle.chain.specs.Owed.{lens_from}
use Rattle.chain.proofs.Counts.{Counted, units_of, units_counted, jobs_of, jobs_counted}
use Rattle.arrivals.specs.declared.Arrival.{Arrival}
use Rattle.arrivals.specs.Arrival.{arrival_at, lens_of, is_of, brings}
use Rattle.arrivals.specs.Seek.{key_of, GoodArrivals}
use Rattle.arrivals.proofs.Good.{rises}
use Rattle.arrivals.proofs.Seeking.{is_of_lem}
use Rattle.machine.specs.declared.Chart.{Chart}
use Rattle.machine.specs.Tick.{jobs_at}
use Rattle.lists.specs.Total.{total}
use Rattle.machine.specs.Counts.{tally_of}
use Rattle.lists.proofs.Total.{total_ext, total-zero, total-add, total_one, total_swap, total_count}
use Rattle.machine.proofs.Rows.{added}
use Rattle.machine.proofs.Ticks.{rows_count}
use Rattle.run.specs.Run.{is_late}
use Rattle.run.specs.Brought.{lengths, brought, arrived, still_there}

-- a weight of arrivals: what an arrival adds, by its lengths
module _ (weight : Arrival → ℕ) (adds : List ℕ → ℕ) (same : (a : Arrival) → adds (lens_of a) ≡ weight a) (xs : List Arrival) where
  -- what the arrival at place k adds to row i at tick t
  abbrev share : ℕ → ℕ → ℕ → ℕ
  share k i t = cond (is_of xs i t k) (weight (arrival_at xs k)) 0

  share_own : (k i t : ℕ) → (arrival_at xs k).tick ≡ t → (arrival_at xs k).row ≡ suc i → share k i t ≡ weight (arrival_at xs k)
  unfolding is_of
  share_own k i t a b = rw (eq-eqb _ _ a, eq-eqb _ _ b)

  -- and nothing elsewhere
  share_other : (k i t : ℕ) → ((arrival_at xs k).tick ≡ t → (arrival_at xs k).row ≡ suc i → ⊥) → share k i t ≡ 0
  share_other k i t h = go (is_of xs i t k) refl
    where
      go : (b : Bool) → is_of xs i t k ≡ b → cond b (weight (arrival_at xs k)) 0 ≡ 0
      go true e = let (a, b) = is_of_lem xs i t k e in absurd (h a b)
      go false e = refl

  module _ (n : ℕ) (periods c1s secs c2s : List ℕ) (good : GoodArrivals n periods c1s secs c2s xs) where
    -- no two arrivals are of one row at one tick
    apart : (j k : ℕ) → j < length xs → k < length xs → (j ≡ k → ⊥) → (arrival_at xs j).tick ≡ (arrival_at xs k).tick → (arrival_at xs j).row ≡ (arrival_at xs k).row → ⊥
    apart j k l m ne a b =
        let up = rises (λ p. key_of (arrival_at xs p)) (length xs) good.sorted in
        dite (dec_lt j k) (λ s. omega (arith, up j k s m)) (λ s. omega (arith, up k j (omega arith) l))

    -- so what is added to row i at tick t is the sum over all arrivals
    added_share : (i t : ℕ) → added adds (brings xs i t) ≡ total (length xs) (λ k. share k i t)
    unfolding brings
    added_share i t = go (ltb at (length xs)) refl
      where
        at : ℕ
        at = first (length xs) (is_of xs i t)

        go : (b : Bool) → ltb at (length xs) ≡ b → added adds (cond b (Some (lens_of (arrival_at xs at))) None) ≡ total (length xs) (λ k. share k i t)
        go true e =
            let l : at < length xs = ltb-true _ _ e in
            let yes = first_yes (length xs) (is_of xs i t) l in
            let (a, b) = is_of_lem xs i t at yes in
            let one = total_one (length xs) at (λ k. share k i t) l (λ k m ne. share_other k i t (λ c d. apart k at m l ne (c ∙ sym a) (d ∙ sym b))) in
            same (arrival_at xs at) ∙ sym (one ∙ share_own at i t a b)
        go false e =
            let h : length xs ≤ at = ltb-false _ _ e in
            sym (total-zero (length xs) (λ k. share k i t) (λ k l. let z : is_of xs i t k ≡ false = first_no (length xs) (is_of xs i t) k (omega arith) in rw z))

    -- each arrival before tick e is counted once
    share_sum : (e k : ℕ) → k < length xs → total n (λ i. total e (share k i)) ≡ cond (ltb (arrival_at xs k).tick e) (weight (arrival_at xs k)) 0
    share_sum e k l =
        let (a, b) = good.rows k l in
        let i : ℕ = (arrival_at xs k).row - 1 in
        let t : ℕ = (arrival_at xs k).tick in
        let row : (arrival_at xs k).row ≡ suc i = omega arith in
        total_one n i (λ j. total e (share k j)) (omega arith) (λ j m ne. total-zero e (share k j) (λ s h. share_other k j s (λ p q. ne (omega arith))))
        ∙ dite (dec_lt t e)
        (λ h. rw (lt-ltb t e h) (total_one e t (share k i) h (λ s m ne. share_other k i s (λ p q. ne (sym p))) ∙ share_own k i t refl row))
        (λ h. rw (le-ltb t e (omega arith)) (total-zero e (share k i) (λ s m. share_other k i s (λ p q. omega arith))))

    -- so what is added to all rows before tick e is the weight of the arrivals before it
    added_is : (e : ℕ) → total n (λ i. total e (λ t. added adds (brings xs i t))) ≡ total (length xs) (λ k. cond (ltb (arrival_at xs k).tick e) (weight (arrival_at xs k)) 0)
    added_is e =
        total_ext n _ _ (λ i l. total_ext e _ _ (λ t h. added_share i t) ∙ total_swap e (length xs) (λ t k. share k i t))
        ∙ total_swap n (length xs) (λ i k. total e (share k i))
        ∙ total_ext (length xs) _ _ (share_sum e)

-- an arrival adds its lengths to what is run and owed
lens_are : (a : Arrival) → lens_from 0 (lens_of a) ≡ lengths a
unfolding lens_from
lens_are a = omega arith

module _ (c : Chart) (periods c1s secs c2s : List ℕ) (xs : List Arrival) (good : GoodArrivals c.n periods c1s secs c2s xs) (e : ℕ) (h : (t : ℕ) → t < e → is_late c xs t ≡ false) where
  -- what is counted of all jobs is what the arrivals before tick e add
  all_count : (count : Job → ℕ) (adds : List ℕ → ℕ) → Counted count adds → (weight : Arrival → ℕ) → ((a : Arrival) → adds (lens_of a) ≡ weight a) →
      total c.n (λ i. count (job_at (jobs_at c (brings xs) e) i)) ≡ total (length xs) (λ k. cond (ltb (arrival_at xs k).tick e) (weight (arrival_at xs k)) 0)
  all_count count adds law weight same =
      rows_count c periods c1s secs c2s xs good count adds law e (λ t l. ltb-false _ _ (h t l))
      ∙ added_is weight adds same xs c.n periods c1s secs c2s good e

  -- "run plus owed equals all lengths brought"
  pub run_and_owed : (tally_of c.n (jobs_at c (brings xs) e)).run + (tally_of c.n (jobs_at c (brings xs) e)).owed ≡ brought xs e
  unfolding tally_of brought
  run_and_owed = sym (total-add c.n _ _) ∙ all_count units_of (lens_from 0) units_counted lengths lens_are

  -- the jobs ended and those still there are as many as the arrivals
  pub jobs_and_open : (tally_of c.n (jobs_at c (brings xs) e)).jobs + still_there c.n (jobs_at c (brings xs) e) ≡ arrived xs e
  unfolding tally_of still_there arrived
  jobs_and_open =
      rw (sym (total_count c.n (λ i. not (is_idle (job_at (jobs_at c (brings xs) e) i).place))))
      (sym (total-add c.n _ _) ∙ all_count jobs_of (λ ls. 1) jobs_counted (λ a. 1) (λ a. refl) ∙ total_count (length xs) _)
