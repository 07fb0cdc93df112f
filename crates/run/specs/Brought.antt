-- What a run's counts come to: all that its arrivals brought, and how many they are; the jobs still there; the busy bytes of its trace.
use Rattle.std.specs.Prelude.{ℕ, zero, suc, ◌+◌, cond, not, List, [], ◌∷◌, length, ltb}
use Rattle.chain.specs.declared.Job.{Job}
use Rattle.chain.specs.Job.{job_at, is_idle}
use Rattle.arrivals.specs.declared.Arrival.{Arrival}
use Rattle.arrivals.specs.Arrival.{arrival_at}
use Rattle.lists.specs.Count.{count}
use Rattle.lists.specs.Total.{total}

-- the three lengths of an arrival
abbrev pub lengths : Arrival → ℕ
lengths a = a.len1 + a.len2 + a.len3

-- "all lengths brought by arrivals before" tick e
unfoldable pub brought : List Arrival → ℕ → ℕ
brought xs e = total (length xs) (λ k. cond (ltb (arrival_at xs k).tick e) (lengths (arrival_at xs k)) 0)

-- how many arrivals come before tick e
unfoldable pub arrived : List Arrival → ℕ → ℕ
arrived xs e = count (length xs) (λ k. ltb (arrival_at xs k).tick e)

-- how many of n jobs have arrived and not ended: their tasks are not idle
unfoldable pub still_there : ℕ → List Job → ℕ
still_there n js = count n (λ i. not (is_idle (job_at js i).place))

-- how many bytes are not 0: "Idle is a zero byte."
unfoldable pub busy : List ℕ → ℕ
busy [] = 0
busy (zero ∷ bs) = busy bs
busy (suc b ∷ bs) = suc (busy bs)
