-- "A task fits a processor when D1, D2 exist with D1 + S + D2 ≤ T."
use Rattle.std.specs.Prelude.{ℕ, ◌+◌, ◌-◌, List, Bool, true, false, cond, ltb, Result, Ok, Err}
use Rattle.lists.specs.First.{first}
use Rattle.lists.specs.Smallest.{smallest}
use Rattle.bounds.specs.Demand.{Term}
use Rattle.bounds.specs.Bound.{Bound, bound_of}
use Rattle.bounds.specs.declared.Broke.{Broke}
use Rattle.stages.specs.declared.Pair.{Pair}
use Rattle.stages.specs.declared.Spot.{Spot}

-- the two bounds of a task on a processor, or the value that keeps it from fitting there
abbrev pub Fit : Type 0
Fit = Result Pair Broke

abbrev pub fits : ℕ → ℕ → Fit
fits d1 d2 = Ok (record { d1 = d1; d2 = d2 })

abbrev pub unfit : ℕ → Fit
unfit v = Err (record { value = v })

-- a task's processor and its two bounds, or the value that goes with none
abbrev pub Place : Type 0
Place = Result Spot Broke

abbrev pub on : ℕ → ℕ → ℕ → Place
on p d1 d2 = Ok (record { processor = p; d1 = d1; d2 = d2 })

abbrev pub nowhere : ℕ → Place
nowhere v = Err (record { value = v })

-- the two bounds, of a task with this section bound and this period, or "the value that broke D1, else D2, else the sum D1 + S + D2"
unfoldable pub fit_of : Bound → Bound → ℕ → ℕ → Fit
fit_of (Ok d1) (Ok d2) section period = cond (ltb period (d1 + section + d2)) (unfit (d1 + section + d2)) (fits d1 d2)
fit_of (Ok d1) (Err e) section period = Err e
fit_of (Err e) b section period = Err e

-- "Stage bounds D1 and D2: the same with C1 (or C2) in place of A, no B"; "The limit is .. T − S for a stage"
unfoldable pub fit_among : List Term → ℕ → ℕ → ℕ → ℕ → Fit
fit_among terms c1 c2 section period = fit_of (bound_of terms c1 0 (period - section)) (bound_of terms c2 0 (period - section)) section period

-- whether the task fits, and the value that kept it from that, 0 if it does
abbrev pub is_fit : Fit → Bool
is_fit (Ok x) = true
is_fit (Err e) = false

abbrev pub broke_fit : Fit → ℕ
broke_fit (Ok x) = 0
broke_fit (Err e) = e.value

-- the processor, from `from` on, `count` of them, that is the first with a fit; the one behind them if there is none
abbrev pub first_fit : (ℕ → Fit) → ℕ → ℕ → ℕ
first_fit fit from count = from + first count (λ q. is_fit (fit (from + q)))

-- the place of a task with this fit on processor p
unfoldable pub place_with : ℕ → Fit → Place
place_with p (Ok x) = on p x.d1 x.d2
place_with p (Err e) = Err e

-- "the smallest, over the application processors", which are s + 1 to m, of the values that kept it from fitting
unfoldable pub smallest_broke : (ℕ → Fit) → ℕ → ℕ → ℕ
smallest_broke fit s m = smallest (m - s) (λ q. broke_fit (fit (s + 1 + q)))

-- "the lowest-numbered application processor that it fits": of s + 1 to m
unfoldable pub place_among : (ℕ → Fit) → ℕ → ℕ → Place
place_among fit s m = cond (ltb m (first_fit fit (s + 1) (m - s))) (nowhere (smallest_broke fit s m)) (place_with (first_fit fit (s + 1) (m - s)) (fit (first_fit fit (s + 1) (m - s))))
