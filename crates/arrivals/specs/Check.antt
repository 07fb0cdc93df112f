-- Refusals 15 to 18: the first bad arrival, and in it the lowest number.
use Rattle.std.specs.Prelude.{ℕ, zero, suc, ◌+◌, ◌-◌, Bool, false, cond, not, ◌&&◌, ◌||◌, List, get_or, length, ltb, leb, eqb, Result, Ok, Err, ⊤}
use Rattle.lists.specs.First.{first}
use Rattle.table.specs.Row.{outside}
use Rattle.arrivals.specs.Arrival.{Arrival, arrival_at}
pub use Rattle.arrivals.specs.declared.Fault.{Fault}
pub use Rattle.arrivals.specs.declared.Fault.TheVariants.{NoRow, Disordered, TooLong, TooSoon}
pub use Rattle.arrivals.specs.declared.Unheard.{Unheard}

-- an arrival stands behind another: a later tick, or the same tick and a larger row
abbrev pub behind : Arrival → Arrival → Bool
behind x y = ltb x.tick y.tick || (eqb x.tick y.tick && ltb x.row y.row)

-- "tick below the one before, or same tick and row not larger"
unfoldable pub disordered : List Arrival → ℕ → Bool
disordered xs zero = false
disordered xs (suc k) = not (behind (arrival_at xs k) (arrival_at xs (suc k)))

-- one more than the tick of the last arrival of row r before place k; 0 if there is none
unfoldable pub last_of : List Arrival → ℕ → ℕ → ℕ
last_of xs r zero = 0
last_of xs r (suc k) = cond (eqb (arrival_at xs k).row r) (suc (arrival_at xs k).tick) (last_of xs r k)

-- "less than T ago", where `last` is such a mark
abbrev pub less_than_t_ago : ℕ → ℕ → ℕ → Bool
less_than_t_ago tick last period = ltb 0 last && ltb (suc tick) (last + period)

-- "Numbers for no", 15 to 18
unfoldable pub fault_number : Fault → ℕ
fault_number NoRow = 15
fault_number Disordered = 16
fault_number TooLong = 17
fault_number TooSoon = 18

-- the number of an answer; 0 is no refusal
abbrev pub number_by : Result ⊤ Fault → ℕ
number_by (Ok x) = 0
number_by (Err f) = fault_number f

-- the fault with a number of 15 to 18
unfoldable pub fault_with : ℕ → Fault
fault_with number =
    cond (eqb number 15) NoRow
    (cond (eqb number 16) Disordered
    (cond (eqb number 17) TooLong
    TooSoon))

module _ (n : ℕ) (periods c1s secs c2s : List ℕ) (xs : List Arrival) where
  -- 15: "row not in 1 to n"
  abbrev pub bad_row : ℕ → Bool
  bad_row k = outside (arrival_at xs k).row 1 n

  -- 16: "tick 1,000,000 or more, tick below the one before, or same tick and row not larger"
  abbrev pub bad_tick : ℕ → Bool
  bad_tick k = leb 1000000 (arrival_at xs k).tick || disordered xs k

  -- 17: "a length above the table's"
  abbrev pub too_long : ℕ → Bool
  too_long k =
      ltb (get_or c1s ((arrival_at xs k).row - 1) 0) (arrival_at xs k).len1
      || (ltb (get_or secs ((arrival_at xs k).row - 1) 0) (arrival_at xs k).len2
      || ltb (get_or c2s ((arrival_at xs k).row - 1) 0) (arrival_at xs k).len3)

  -- 18: "same row's last arrival less than T ago"
  abbrev pub early : ℕ → Bool
  early k = less_than_t_ago (arrival_at xs k).tick (last_of xs (arrival_at xs k).row k) (get_or periods ((arrival_at xs k).row - 1) 0)

  -- the lowest number that the arrival at place k gives, or 0
  unfoldable pub number_at : ℕ → ℕ
  number_at k = cond (bad_row k) 15 (cond (bad_tick k) 16 (cond (too_long k) 17 (cond (early k) 18 0)))

  -- "for arrivals the first bad one"
  unfoldable pub first_bad : ℕ
  first_bad = first (length xs) (λ k. ltb 0 (number_at k))

  -- "Positions count from 1."
  unfoldable pub heard_of : Result ⊤ Unheard
  heard_of =
      cond (ltb first_bad (length xs))
      (Err (record { fault = fault_with (number_at first_bad); position = suc first_bad }))
      (Ok tt)

-- the number of what is heard, and the position that it names; 0 if there is no refusal
abbrev pub number_heard : Result ⊤ Unheard → ℕ
number_heard (Ok x) = 0
number_heard (Err u) = fault_number u.fault

abbrev pub position_heard : Result ⊤ Unheard → ℕ
position_heard (Ok x) = 0
position_heard (Err u) = u.position
