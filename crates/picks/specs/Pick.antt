-- What a processor runs. One rule serves every processor: the rule for sections where a released, unfinished section is, and
-- otherwise the best-ranked released, unfinished stage.
use Rattle.std.specs.Prelude.{ℕ, zero, suc, ◌+◌, ◌*◌, Bool, false, cond, not, ◌&&◌, ◌||◌, List, get_or, ltb, eqb}
use Rattle.chain.specs.declared.Place.{Place}
use Rattle.chain.specs.declared.Place.TheVariants.{Idle, Waiting, Running}
use Rattle.chain.specs.declared.Job.{Job}
use Rattle.chain.specs.Job.{job_at}
use Rattle.picks.specs.Best.{best, every}

-- the larger one goes first
abbrev pub gtb : ℕ → ℕ → Bool
gtb x y = ltb y x

-- part 1 of a chain is the section
abbrev pub is_section : ℕ → Bool
is_section j = eqb j 1

-- a processor stands for each part of each row, three to a row
abbrev pub home : List ℕ → ℕ → ℕ → ℕ
home homes i j = get_or homes (3 * i + j) 0

-- row i's place is a released, unfinished section on processor q; a released, unfinished stage there
unfoldable pub section_on : List ℕ → ℕ → ℕ → Place → Bool
section_on homes q i Idle = false
section_on homes q i (Waiting u j) = false
section_on homes q i (Running j l) = is_section j && eqb (home homes i j) q

unfoldable pub stage_on : List ℕ → ℕ → ℕ → Place → Bool
stage_on homes q i Idle = false
stage_on homes q i (Waiting u j) = false
stage_on homes q i (Running j l) = not (is_section j) && eqb (home homes i j) q

-- which of the two sections runs, the best not yet begun or the one begun last; a stage only where there is none
unfoldable pub chosen : ℕ → ℕ → ℕ → Bool → ℕ
chosen zero zero stage clear = stage
chosen zero (suc y) stage clear = suc y
chosen (suc x) zero stage clear = suc x
chosen (suc x) (suc y) stage clear = cond clear (suc x) (suc y)

module _ (homes ranks tops : List ℕ) (n : ℕ) (js : List Job) where
  -- a released section not yet begun; one that is begun and unfinished: it holds its resource
  unfoldable pub waits : ℕ → ℕ → Bool
  waits q i = section_on homes q i (job_at js i).place && eqb (job_at js i).begun 0

  unfoldable pub holds : ℕ → ℕ → Bool
  holds q i = section_on homes q i (job_at js i).place && ltb 0 (job_at js i).begun

  -- a released, unfinished stage
  unfoldable pub ready : ℕ → ℕ → Bool
  ready q i = stage_on homes q i (job_at js i).place

  -- "the best-ranked released section not yet begun"
  unfoldable pub first_on : ℕ → ℕ
  first_on q = best ltb (waits q) (λ i. get_or ranks i 0) n

  -- "the section begun last among the unfinished"
  unfoldable pub last_on : ℕ → ℕ
  last_on q = best gtb (holds q) (λ i. (job_at js i).begun) n

  -- "the best-ranked released, unfinished stage"
  unfoldable pub stage_for : ℕ → ℕ
  stage_for q = best ltb (ready q) (λ i. get_or ranks i 0) n

  -- "its rank is strictly better than the ceilings of all resources held there"
  unfoldable pub clear : ℕ → ℕ → Bool
  clear q zero = false
  clear q (suc x) = every n (λ i. not (holds q i) || ltb (get_or ranks x 0) (get_or tops i 0))

  -- "the best-ranked released section not yet begun starts if nothing begun is unfinished there, or if its rank is strictly
  -- better than the ceilings of all resources held there; otherwise the section begun last among the unfinished runs"
  unfoldable pub pick : ℕ → ℕ
  pick q = chosen (first_on q) (last_on q) (stage_for q) (clear q (first_on q))
