-- What the numbers of a job say of it.
use Prim.Native.Nat.{ℕ, ◌+◌, ◌-◌, ◌*◌, ◌<◌}
use mathlib.Core.Path.{◌≡◌, refl, sym, ◌∙◌, ap}
use mathlib.Core.List.{List, [], ◌∷◌}
use mathlib.Core.Logic.{dite}
use native.Mathlib.Omega.{arith}
use native.Mathlib.Decide.{ℕ_discrete}
use native.Mathlib.Nat.{add-zero, zero-add}
use borrow.Author.Tests.{lt-ltb, le-ltb, ne_eqb}
use lib.ListN.{get_or, length, set, length-set}
use lib.Seq.{sets, length-sets, ext_get_or, get_or-set_same, get_or-set_other}
use Rattle.lists.specs.Tab.{tab, blank}
use Rattle.lists.proofs.Tab.{length-tab, get_or-tab, get_or-blank, length-blank}
use Rattle.lists.proofs.Sets.{get_or-beside, get_or-within}
use Rattle.chain.specs.declared.Place.{Place}
use Rattle.chain.specs.declared.Place.TheVariants.{Idle, Waiting, Running}
use Rattle.chain.specs.declared.Job.{Job}
use Rattle.chain.specs.Job.{no_job, job_at}
use Rattle.chain.specs.Good.{part_of}
use Rattle.jobs.specs.Numbers.{code_of, number_of, place_in, numbers_of, job_in, jobs_in}

-- there are 64 jobs
pub length-jobs : (flat : List ℕ) → length (jobs_in flat) ≡ 64
unfolding jobs_in
length-jobs flat = length-tab 64 (job_in flat)

-- row i's is what its nine numbers say
pub jobs_at_lem : (flat : List ℕ) (i : ℕ) → i < 64 → job_at (jobs_in flat) i ≡ job_in flat i
unfolding jobs_in
jobs_at_lem flat i h = get_or-tab 64 (job_in flat) i no_job h

-- 64 jobs are given by the job of each row
pub jobs_are : (js : List Job) (f : ℕ → Job) → length js ≡ 64 → ((i : ℕ) → i < 64 → job_at js i ≡ f i) → js ≡ tab 64 f
jobs_are js f l h = ext_get_or no_job js (tab 64 f) (l ∙ sym (length-tab 64 f)) (λ i k. let m : i < 64 = omega arith in h i m ∙ sym (get_or-tab 64 f i no_job m))

-- it has three lengths
pub lens_in : (flat : List ℕ) (i : ℕ) → length (job_in flat i).lens ≡ 3
unfolding job_in
lens_in flat i = refl

-- writing a job leaves the length as it was
pub length_put : (flat : List ℕ) (i : ℕ) (x : Job) → length (sets flat (9 * i) (numbers_of x)) ≡ length flat
length_put flat i x = length-sets flat (9 * i) (numbers_of x)

-- the code and the number of a place stand for it
place_back : (p : Place) → part_of p < 3 → place_in (code_of p) (number_of p) ≡ p
unfolding place_in code_of number_of
place_back Idle h = refl
place_back (Waiting u j) h =
    let e : j + 1 - 1 ≡ j = omega arith in
    rw (ne_eqb (j + 1) 0 (λ q. omega arith), lt-ltb (j + 1) 4 (omega arith), e)
place_back (Running j l) h =
    let e : j + 4 - 4 ≡ j = omega arith in
    rw (ne_eqb (j + 4) 0 (λ q. omega arith), le-ltb (j + 4) 4 (omega arith), e)

-- three lengths, one by one
lens_back : (ls : List ℕ) → length ls ≡ 3 → get_or ls 0 0 ∷ get_or ls 1 0 ∷ get_or ls 2 0 ∷ [] ≡ ls
lens_back [] h = absurd (omega arith)
lens_back (a ∷ []) h = absurd (omega arith)
lens_back (a ∷ b ∷ []) h = absurd (omega arith)
lens_back (a ∷ b ∷ c ∷ []) h = refl
lens_back (a ∷ b ∷ c ∷ d ∷ ls) h = absurd (omega arith)

-- rows with the same nine numbers are the same job
same_job : (f g : List ℕ) (i k : ℕ) → ((j : ℕ) → j < 9 → get_or f (9 * i + j) 0 ≡ get_or g (9 * k + j) 0) → job_in f i ≡ job_in g k
unfolding job_in
same_job f g i k e =
    let z = rw (add-zero (9 * i), add-zero (9 * k)) at (e 0 (omega arith)) in
    rw (z, e 1 (omega arith), e 2 (omega arith), e 3 (omega arith), e 4 (omega arith), e 5 (omega arith), e 6 (omega arith), e 7 (omega arith), e 8 (omega arith))

-- the numbers of a job, alone, stand for it
job_back : (x : Job) → part_of x.place < 3 → length x.lens ≡ 3 → job_in (numbers_of x) 0 ≡ x
unfolding job_in numbers_of
job_back x p q = ap (λ (at : Place). made at (get_or ls 0 0 ∷ get_or ls 1 0 ∷ get_or ls 2 0 ∷ [])) (place_back x.place p) ∙ ap (made x.place) (lens_back ls q)
  where
    ls : List ℕ
    ls = x.lens

    made : Place → List ℕ → Job
    made at ls = record { place = at; arrived = x.arrived; lens = ls; begun = x.begun; ended = x.ended; ran = x.ran }

-- the numbers of a job stand for it, and those of the other rows stay
pub jobs_put : (flat : List ℕ) (i : ℕ) (x : Job) → i < 64 → length flat ≡ 576 → part_of x.place < 3 → length x.lens ≡ 3 → jobs_in (sets flat (9 * i) (numbers_of x)) ≡ set (jobs_in flat) i x
unfolding jobs_in numbers_of
jobs_put flat i x h l p q =
    sym (jobs_are (set (jobs_in flat) i x) (job_in put) (length-set (jobs_in flat) i x ∙ length-jobs flat) (λ k m.
    dite (ℕ_discrete k i)
    (λ e. rw e (get_or-set_same (jobs_in flat) i x no_job (omega (arith, length-jobs flat)) ∙ sym (here ∙ job_back x p q)))
    (λ e. get_or-set_other (jobs_in flat) i k x no_job e ∙ jobs_at_lem flat k m ∙ sym (there k e))))
  where
    put : List ℕ
    put = sets flat (9 * i) (numbers_of x)

    here : job_in put i ≡ job_in (numbers_of x) 0
    here = same_job put (numbers_of x) i 0 (λ j m. rw (zero-add j) (get_or-within 0 (numbers_of x) flat (9 * i) j (omega arith) m))

    there : (k : ℕ) → (k ≡ i → ⊥) → job_in put k ≡ job_in flat k
    there k e = same_job put flat k k (λ j m. get_or-beside 0 (numbers_of x) flat (9 * i) (9 * k + j) (λ b. omega arith))

-- blank numbers stand for tasks that have not arrived
pub jobs_blank : jobs_in (blank 576 0) ≡ blank 64 no_job
unfolding jobs_in job_in place_in
jobs_blank = sym (jobs_are (blank 64 no_job) (job_in (blank 576 0)) (length-blank 64 no_job) (λ i h. get_or-blank 64 no_job i ∙ sym (same_job (blank 576 0) [] i 0 (λ j m. get_or-blank 576 0 (9 * i + j)))))
