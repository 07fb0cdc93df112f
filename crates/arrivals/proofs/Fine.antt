-- What each number says of an arrival, as facts, and of a list which arrival is refused.
use Prim.Native.Nat.{ℕ, suc, ◌+◌, ◌-◌, ◌≤◌, ◌<◌}
use Rattle.std.specs.Prelude.{Ok, Err}
use mathlib.Core.Path.{◌≡◌, refl, sym, ◌∙◌, ap}
use mathlib.Core.List.{List}
use mathlib.Core.Logic.{dite}
use mathlib.Core.Bool.{Bool, true, false, cond, ◌||◌}
use native.Mathlib.Decide.{dec_lt}
use native.Mathlib.Omega.{arith}
use native.Mathlib.Numerals.{add-one}
use borrow.Author.Tests.{lt-ltb, le-ltb, ltb-false, lt-leb, leb-false, eqb-true, eqb-false}
use lib.ListN.{length, get_or}
use lib.Dec.{ltb, leb, eqb}
use Rattle.lists.proofs.Tests.{neither}
use Rattle.lists.proofs.First.{first_bad_lem, none_bad}
use Rattle.table.specs.Row.{outside}
use Rattle.table.proofs.Laws.{inside}
use Rattle.arrivals.specs.Arrival.{Arrival, arrival_at}
use Rattle.arrivals.specs.Check.{Fault, NoRow, Disordered, TooLong, TooSoon, disordered, last_of, less_than_t_ago, fault_number, fault_with, number_at, first_bad, heard_of, number_heard}

-- 15 is not given
abbrev pub RowFine : ℕ → Arrival → Type 0
RowFine n x = (1 ≤ x.row) × (x.row ≤ n)

-- 16 is not given to the arrival x at place k
abbrev pub TickFine : List Arrival → ℕ → Arrival → Type 0
TickFine xs k x = (x.tick < 1000000) × (disordered xs k ≡ false)

-- 17 is not given
abbrev pub LengthsFine : List ℕ → List ℕ → List ℕ → Arrival → Type 0
LengthsFine c1s secs c2s x = (x.len1 ≤ get_or c1s (x.row - 1) 0) × (x.len2 ≤ get_or secs (x.row - 1) 0) × (x.len3 ≤ get_or c2s (x.row - 1) 0)

-- 18 is not given
abbrev PeriodFine : List ℕ → List Arrival → ℕ → Arrival → Type 0
PeriodFine periods xs k x = 0 < last_of xs x.row k → last_of xs x.row k + get_or periods (x.row - 1) 0 ≤ suc x.tick

-- none of 15 to 18 is given
pub record Fine (n : ℕ) (periods c1s secs c2s : List ℕ) (xs : List Arrival) (k : ℕ) (x : Arrival) : Type 0 where
  pub row : RowFine n x
  pub tick : TickFine xs k x
  pub lengths : LengthsFine c1s secs c2s x
  pub period : PeriodFine periods xs k x

-- a test that does not fail passes
is_true : (b : Bool) → (b ≡ false → ⊥) → b ≡ true
is_true true h = refl
is_true false h = absurd (h refl)

module _ (n : ℕ) (periods c1s secs c2s : List ℕ) (xs : List Arrival) (k : ℕ) (x : Arrival) (e : arrival_at xs k ≡ x) where
  -- the four tests, of the arrival x
  abbrev bad_row : Bool
  bad_row = outside x.row 1 n

  abbrev bad_tick : Bool
  bad_tick = leb 1000000 x.tick || disordered xs k

  abbrev too_long : Bool
  too_long = ltb (get_or c1s (x.row - 1) 0) x.len1 || (ltb (get_or secs (x.row - 1) 0) x.len2 || ltb (get_or c2s (x.row - 1) 0) x.len3)

  abbrev early : Bool
  early = less_than_t_ago x.tick (last_of xs x.row k) (get_or periods (x.row - 1) 0)

  -- the number by the tests
  number_by : number_at n periods c1s secs c2s xs k ≡ cond bad_row 15 (cond bad_tick 16 (cond too_long 17 (cond early 18 0)))
  unfolding number_at
  number_by = rw e

  -- each test fails exactly where what it looks for is fine
  row_fine : bad_row ≡ false → RowFine n x
  row_fine h = inside x.row 1 n h

  fine_row : RowFine n x → bad_row ≡ false
  unfolding outside
  fine_row r = rw (le-ltb _ _ r.0, le-ltb _ _ r.1)

  tick_fine : bad_tick ≡ false → TickFine xs k x
  tick_fine h =
      let w = neither _ _ h in
      (leb-false _ _ w.0, w.1)

  fine_tick : TickFine xs k x → bad_tick ≡ false
  fine_tick t = rw (lt-leb _ _ t.0, t.1)

  lengths_fine : too_long ≡ false → LengthsFine c1s secs c2s x
  lengths_fine h =
      let w = neither _ _ h in
      let v = neither _ _ w.1 in
      (ltb-false _ _ w.0, ltb-false _ _ v.0, ltb-false _ _ v.1)

  fine_lengths : LengthsFine c1s secs c2s x → too_long ≡ false
  fine_lengths l = rw (le-ltb _ _ l.0, le-ltb _ _ l.1, le-ltb _ _ l.2)

  period_fine : early ≡ false → PeriodFine periods xs k x
  period_fine h p = ltb-false _ _ (rw (lt-ltb _ _ p) at h)

  fine_period : PeriodFine periods xs k x → early ≡ false
  fine_period p =
      dite (dec_lt 0 (last_of xs x.row k))
      (λ l. rw (lt-ltb _ _ l, le-ltb _ _ (p l)))
      (λ l.
      let z : last_of xs x.row k ≤ 0 = omega arith in
      rw (le-ltb _ _ z))

  -- each of 15 to 18 is given where what it looks for is not fine, and all before it is
  pub number_15 : (RowFine n x → ⊥) → number_at n periods c1s secs c2s xs k ≡ 15
  number_15 h = number_by ∙ rw (is_true bad_row (λ f. h (row_fine f)))

  pub number_16 : RowFine n x → (TickFine xs k x → ⊥) → number_at n periods c1s secs c2s xs k ≡ 16
  number_16 r h = number_by ∙ rw (fine_row r, is_true bad_tick (λ f. h (tick_fine f)))

  pub number_17 : RowFine n x → TickFine xs k x → (LengthsFine c1s secs c2s x → ⊥) → number_at n periods c1s secs c2s xs k ≡ 17
  number_17 r t h = number_by ∙ rw (fine_row r, fine_tick t, is_true too_long (λ f. h (lengths_fine f)))

  pub number_18 : RowFine n x → TickFine xs k x → LengthsFine c1s secs c2s x → (PeriodFine periods xs k x → ⊥) → number_at n periods c1s secs c2s xs k ≡ 18
  number_18 r t l h = number_by ∙ rw (fine_row r, fine_tick t, fine_lengths l, is_true early (λ f. h (period_fine f)))

  -- 0 exactly where all is fine
  pub number_none : Fine n periods c1s secs c2s xs k x → number_at n periods c1s secs c2s xs k ≡ 0
  number_none f = number_by ∙ rw (fine_row f.row, fine_tick f.tick, fine_lengths f.lengths, fine_period f.period)

  pub fine : number_at n periods c1s secs c2s xs k ≡ 0 → Fine n periods c1s secs c2s xs k x
  fine h = go bad_row bad_tick too_long early refl refl refl refl (sym number_by ∙ h)
    where
      go : (a b c d : Bool) → bad_row ≡ a → bad_tick ≡ b → too_long ≡ c → early ≡ d → ◌≡◌ {A = ℕ} (cond a 15 (cond b 16 (cond c 17 (cond d 18 0)))) 0 → Fine n periods c1s secs c2s xs k x
      go true b c d p q r s h = absurd (omega arith)
      go false true c d p q r s h = absurd (omega arith)
      go false false true d p q r s h = absurd (omega arith)
      go false false false true p q r s h = absurd (omega arith)
      go false false false false p q r s h = record { row = row_fine p; tick = tick_fine q; lengths = lengths_fine r; period = period_fine s }

  -- a refusal is one of 15 to 18
  pub number_range : (number_at n periods c1s secs c2s xs k ≤ 18) × (1 ≤ number_at n periods c1s secs c2s xs k → 15 ≤ number_at n periods c1s secs c2s xs k)
  number_range = rw number_by (go bad_row bad_tick too_long early)
    where
      go : (a b c d : Bool) → (cond a 15 (cond b 16 (cond c 17 (cond d 18 0))) ≤ 18) × (1 ≤ cond a 15 (cond b 16 (cond c 17 (cond d 18 0))) → 15 ≤ cond a 15 (cond b 16 (cond c 17 (cond d 18 0))))
      go true b c d = (omega arith, λ l. omega arith)
      go false true c d = (omega arith, λ l. omega arith)
      go false false true d = (omega arith, λ l. omega arith)
      go false false false true = (omega arith, λ l. omega arith)
      go false false false false = (omega arith, λ l. omega arith)

-- a fault has a number above 0
pub fault_some : (f : Fault) → 0 < fault_number f
unfolding fault_number
fault_some NoRow = omega arith
fault_some Disordered = omega arith
fault_some TooLong = omega arith
fault_some TooSoon = omega arith

-- and is the one with that number
pub fault_back : (f : Fault) → fault_with (fault_number f) ≡ f
unfolding fault_with fault_number
fault_back NoRow = refl
fault_back Disordered = refl
fault_back TooLong = refl
fault_back TooSoon = refl

-- the fault with a number has it
pub fault_numbered : (x : ℕ) → 15 ≤ x → x ≤ 18 → fault_number (fault_with x) ≡ x
unfolding fault_number fault_with
fault_numbered x h l = go (eqb x 15) (eqb x 16) (eqb x 17) refl refl refl
  where
    go : (a b c : Bool) → eqb x 15 ≡ a → eqb x 16 ≡ b → eqb x 17 ≡ c → fault_number (cond a NoRow (cond b Disordered (cond c TooLong TooSoon))) ≡ x
    go true b c p q r = sym (eqb-true x 15 p)
    go false true c p q r = sym (eqb-true x 16 q)
    go false false true p q r = sym (eqb-true x 17 r)
    go false false false p q r = omega (arith, eqb-false x 15 p, eqb-false x 16 q, eqb-false x 17 r)

module _ (n : ℕ) (periods c1s secs c2s : List ℕ) (xs : List Arrival) where
  -- a bad arrival behind good ones is the refusal: its number, and its position
  pub heard_bad : (k : ℕ) → k < length xs → ((j : ℕ) → j < k → number_at n periods c1s secs c2s xs j ≡ 0) → 0 < number_at n periods c1s secs c2s xs k →
      (heard_of n periods c1s secs c2s xs ≡ Err (record { fault = fault_with (number_at n periods c1s secs c2s xs k); position = suc k }))
      × (number_heard (heard_of n periods c1s secs c2s xs) ≡ number_at n periods c1s secs c2s xs k)
  unfolding heard_of first_bad
  heard_bad k l good bad =
      let e : first_bad n periods c1s secs c2s xs ≡ k = first_bad_lem (length xs) (number_at n periods c1s secs c2s xs) k l good bad in
      let r = number_range n periods c1s secs c2s xs k (arrival_at xs k) refl in
      let h : heard_of n periods c1s secs c2s xs ≡ Err (record { fault = fault_with (number_at n periods c1s secs c2s xs k); position = suc k }) = rw (e, lt-ltb k (length xs) l) in
      (h, ap number_heard h ∙ fault_numbered (number_at n periods c1s secs c2s xs k) (r.1 (omega arith)) r.0)

  -- the same of its fault
  pub heard_fault : (k : ℕ) (f : Fault) → k < length xs → ((j : ℕ) → j < k → number_at n periods c1s secs c2s xs j ≡ 0) → number_at n periods c1s secs c2s xs k ≡ fault_number f →
      heard_of n periods c1s secs c2s xs ≡ Err (record { fault = f; position = k + 1 })
  heard_fault k f l good bad = (heard_bad k l good (omega (arith, fault_some f))).0 ∙ rw (bad, fault_back f, add-one)

  -- good arrivals have none
  pub heard_none : ((k : ℕ) → k < length xs → number_at n periods c1s secs c2s xs k ≡ 0) → heard_of n periods c1s secs c2s xs ≡ Ok tt
  unfolding heard_of first_bad
  heard_none good =
      let e : first_bad n periods c1s secs c2s xs ≡ length xs = none_bad (length xs) (number_at n periods c1s secs c2s xs) good in
      rw (e, le-ltb (length xs) (length xs) (omega arith))
