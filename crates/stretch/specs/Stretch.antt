-- A stretch of ticks, one after the other.
use Rattle.std.specs.Prelude.{ℕ, zero, suc, ◌+◌, ◌<◌, ◌≡◌, List, length}
use Rattle.chain.specs.declared.Job.{Job}
use Rattle.arrivals.specs.declared.Arrival.{Arrival}
use Rattle.arrivals.specs.Arrival.{brings}
use Rattle.machine.specs.declared.Chart.{Chart}
use Rattle.machine.specs.Tick.{Arrivals, releases, late_row, bytes, worse, step}

module _ (c : Chart) (ar : Arrivals) (t : ℕ) where
  -- the jobs after ticks t to t + k - 1, from these jobs before tick t; and once the releases of tick t + k are in
  unfoldable pub steps_from : ℕ → List Job → List Job
  steps_from zero js = js
  steps_from (suc k) js = step c ar (t + k) (steps_from k js)

  unfoldable pub there_after : ℕ → List Job → List Job
  there_after k js = releases c.n c.bounds ar (t + k) (steps_from k js)

  -- the worst responses after ticks t to t + k - 1, from these before tick t
  unfoldable pub worst_from : ℕ → List Job → List ℕ → List ℕ
  worst_from zero js worst = worst
  worst_from (suc k) js worst = worse c (t + k) (there_after k js) (worst_from k js worst)

-- `ticks` ticks from tick t on lead to these jobs and worst responses; behind tick t no release comes too early; and in each of
-- them the processors run the same, as the lane shows if it is as long as there are processors
pub record Stretch (c : Chart) (xs : List Arrival) (t : ℕ) (js : List Job) (worst : List ℕ) (ticks : ℕ) (js' : List Job) (worst' lane : List ℕ) : Type 0 where
  pub jobs : js' ≡ steps_from c (brings xs) t ticks js
  pub timely : (j : ℕ) → 0 < j → j < ticks → late_row c.n c.bounds (brings xs) (t + j) (steps_from c (brings xs) t j js) ≡ c.n
  pub noted : worst' ≡ worst_from c (brings xs) t ticks js worst
  pub shown : length lane ≡ c.m → (j : ℕ) → j < ticks → lane ≡ bytes c (there_after c (brings xs) t j js)
