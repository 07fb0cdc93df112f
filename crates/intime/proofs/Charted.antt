-- A plan that stands, and valid arrivals, make a machine of which the proof speaks.
use Prim.Native.Nat.{ℕ, zero, suc, ◌+◌, ◌*◌, ◌≤◌, ◌<◌}
use mathlib.Core.Path.{◌≡◌, refl, sym, ap, ◌∙◌}
use mathlib.Core.Bool.{Bool, true, false, cond, ◌||◌}
use mathlib.Core.List.{List}
use native.Mathlib.Omega.{arith}
use native.Mathlib.Nat.{mul-add}
use borrow.Author.Tests.{lt-ltb, le-leb, eq-eqb, ne_eqb}
use lib.ListN.{get_or}
use lib.Dec.{eqb, leb}
use Rattle.lists.specs.Tab.{blank}
use Rattle.lists.specs.Total.{total}
use Rattle.lists.proofs.Tab.{get_or-tab, get_or-filled, get_or-blank}
use Rattle.lists.proofs.Total.{total_ext}
use Rattle.rank.specs.Order.{row_of}
use Rattle.rank.specs.Ceiling.{uses, ceiling_of, ceilings_of}
use Rattle.rank.proofs.InRank.{get_or-in_rank, at_lt, row_of_rank, rank_of_row, at_rank}
use Rattle.rank.proofs.Ceiling.{ceiling_le}
use Rattle.table.specs.declared.Table.{Table}
use Rattle.table.specs.Good.{GoodTable}
use Rattle.table.proofs.Good.{names_resource}
use Rattle.bounds.specs.Demand.{Term, ceil, demand}
use Rattle.bounds.specs.Terms.{terms_on}
use Rattle.bounds.proofs.Asked.{demand_on}
use Rattle.sections.specs.Blocking.{may_block}
use Rattle.sections.proofs.Blocks.{blocking_covers}
use Rattle.plan.specs.declared.Plan.{Plan}
use Rattle.plan.specs.Tasks.{by_rank, works_of, of_resource}
use Rattle.plan.specs.Bounds.{section_homes, stage_homes, section_terms, stage_terms, blocking}
use Rattle.plan.proofs.Ordered.{of_resource_lem, works_of_lem}
use Rattle.chain.specs.Release.{off}
use Rattle.chain.proofs.Row.{RowFit}
use Rattle.picks.specs.Pick.{is_section, home}
use Rattle.machine.specs.Chart.{locks_of, tops_of, chart_of}
use Rattle.machine.specs.Tick.{Arrivals}
use Rattle.machine.proofs.Threes.{threes_at}
use Rattle.intime.specs.Demand3.{len_of, bound_of, release_of, Valid}
use Rattle.intime.specs.Stands.{Covers, Stands}
use Rattle.intime.proofs.System.{System, sum, on}

-- of row i, its section or its stages: their processor, and how long they take in a period
abbrev home_of : Table → Plan → Bool → ℕ → ℕ
home_of t p section i = cond section (get_or p.serves (get_or t.resource i 0) 0) (get_or p.processor i 0)

abbrev work_of : Table → Bool → ℕ → ℕ
work_of t section i = cond section (get_or t.a i 0) (get_or t.c1 i 0 + get_or t.c2 i 0)

-- the terms that the plan counts at rank k, for a section or for a stage
abbrev terms_of : Table → Plan → Bool → ℕ → List Term
terms_of t p section k = cond section (section_terms t p k) (stage_terms t p k)

module _ (t : Table) (p : Plan) (g : GoodTable t) where
  -- the rank of row i, and the row of rank r
  abbrev rank : ℕ → ℕ
  rank i = get_or t.rank i 0

  abbrev row : ℕ → ℕ
  row r = row_of t.rank t.n r

  -- the processors of all parts
  abbrev homes : List ℕ
  homes = (chart_of t p).homes

  -- the ceiling of row i's resource
  abbrev ceiling : ℕ → ℕ
  ceiling i = get_or t.ceiling (get_or t.resource i 0) 0

  -- the chart's bounds and release ticks are the plan's
  pub bound_is : (i j : ℕ) → i < t.n → j < 3 → get_or (chart_of t p).bounds (3 * i + j) 0 ≡ bound_of p i j
  unfolding chart_of bound_of
  bound_is i j hi hj = threes_at p.d1 p.section p.d2 t.n g.rows.1 (bound_of p i) i hi refl refl refl j hj

  pub release_is : (i a j : ℕ) → i < t.n → j ≤ 3 → a + off (chart_of t p).bounds i j ≡ release_of p i a j
  unfolding release_of off
  release_is i a zero hi hj = omega arith
  release_is i a (suc j) hi hj = omega (arith, release_is i a j hi (omega arith), bound_is i j hi hj)

  -- a part's processor is that of its kind
  home_is : (i j : ℕ) → i < t.n → j < 3 → home homes i j ≡ home_of t p (is_section j) i
  unfolding chart_of
  home_is i j hi hj =
      let lock = get_or-filled 64 0 (λ k. home_of t p true k) t.n i 0 hi in
      threes_at p.processor (locks_of t p) p.processor t.n g.rows.1 (λ j. home_of t p (is_section j) i) i hi refl lock refl j hj

  -- the sections of one resource are on one processor
  pub section_home : (i k : ℕ) → i < t.n → k < t.n → get_or t.resource i 0 ≡ get_or t.resource k 0
      → home (chart_of t p).homes i 1 ≡ home (chart_of t p).homes k 1
  section_home i k hi hk same =
      home_is i 1 hi (omega arith) ∙ ap (λ (r : ℕ). get_or p.serves r 0) same ∙ sym (home_is k 1 hk (omega arith))

  -- the chart has the ceiling of each row's resource, and under NPP one above all ranks
  top_is : (i : ℕ) → i < t.n → get_or (chart_of t p).top i 0 ≡ cond t.npp 0 (ceiling i)
  unfolding chart_of tops_of
  top_is i hi = go t.npp
    where
      go : (npp : Bool) → get_or (cond npp (blank 64 0) (of_resource t.ceiling t.resource t.n)) i 0 ≡ cond npp 0 (ceiling i)
      go true = get_or-blank 64 0 i
      go false = get_or-filled 64 0 ceiling t.n i 0 hi

  -- the ceiling of a resource is at or above the rank of each of its users
  pub top_user : (i k : ℕ) → i < t.n → k < t.n → 1 ≤ get_or t.resource i 0 → get_or t.resource i 0 ≡ get_or t.resource k 0
      → get_or (chart_of t p).top k 0 ≤ get_or t.rank i 0
  unfolding ceilings_of
  top_user i k hi hk some same = rw (top_is k hk) (go t.npp)
    where
      r : ℕ
      r = get_or t.resource k 0

      best : ceiling k ≡ ceiling_of t.resource t.rank t.n r
      best =
          ap (λ (l : List ℕ). get_or l r 0) g.ceilings
          ∙ get_or-tab 17 (ceiling_of t.resource t.rank t.n) r 0 (omega (arith, (g.tasks k hk).resource))

      user : uses (get_or t.resource i 0) r ≡ true
      user = rw (lt-ltb 0 r (omega arith), eq-eqb (get_or t.resource i 0) r same)

      go : (npp : Bool) → cond npp 0 (ceiling k) ≤ rank i
      go true = omega arith
      go false = omega (arith, best, ceiling_le t.resource t.rank r t.n i hi user)

  -- a row with a section is a user of its resource
  pub own_top : (i : ℕ) → i < (chart_of t p).n → 1 ≤ len_of t i 1 → get_or (chart_of t p).top i 0 ≤ get_or (chart_of t p).rank i 0
  unfolding chart_of len_of
  own_top i hi long = top_user i i hi hi (names_resource t g i hi long) refl

  -- a period is at least 1
  pub period_some : (i : ℕ) → i < (chart_of t p).n → 1 ≤ get_or t.period i 0
  unfolding chart_of
  period_some i hi = (g.tasks i hi).period.0

  -- ranks and rows undo each other
  pub rank_lt : (i : ℕ) → i < (chart_of t p).n → get_or (chart_of t p).rank i 0 < (chart_of t p).n
  unfolding chart_of
  rank_lt i hi = at_lt t.period t.rank t.n g.rows.1 g.ranks i hi

  -- the row of a rank has that rank,
  pub row_at : (r : ℕ) → r < (chart_of t p).n → (row r < (chart_of t p).n) × (get_or (chart_of t p).rank (row r) 0 ≡ r)
  unfolding chart_of
  row_at r hr = rank_of_row t.period t.rank t.n g.rows.1 g.ranks r hr

  -- and the row of a row's rank is that row
  pub row_back : (i : ℕ) → i < (chart_of t p).n → row (get_or (chart_of t p).rank i 0) ≡ i
  unfolding chart_of
  row_back i hi = row_of_rank t.period t.rank t.n g.rows.1 g.ranks i hi

  -- a column in rank order that has f for the row of each rank has it for each row at its rank
  at_its_rank : (column : List ℕ) (f : ℕ → ℕ) → ((r : ℕ) → r < t.n → get_or column r 0 ≡ f (row r)) → (i : ℕ) → i < t.n → get_or column (rank i) 0 ≡ f i
  unfolding chart_of
  at_its_rank column f h i hi = h (rank i) (rank_lt i hi) ∙ ap f (row_back i hi)

  -- the demand of the tasks ranked before row i that are where it is, from columns in rank order of their work and their processors
  demand_before : (lens on : List ℕ) (work at : ℕ → ℕ)
      → ((r : ℕ) → r < t.n → get_or lens r 0 ≡ work (row r)) → ((r : ℕ) → r < t.n → get_or on r 0 ≡ at (row r)) → (i time : ℕ) → i < t.n
      → demand (terms_on (by_rank t t.period) lens on (get_or on (rank i) 0) (rank i)) time
      ≡ total (rank i) (λ r. cond (eqb (at (row r)) (at i)) (ceil time (get_or t.period (row r) 0) * work (row r)) 0)
  unfolding chart_of
  demand_before lens on work at long there i time hi =
      demand_on (by_rank t t.period) lens on (get_or on (rank i) 0) (rank i) time
      ∙ total_ext (rank i) _ _ (λ r l.
      let hr : r < t.n = omega (arith, rank_lt i hi) in
      rw (at_its_rank on at there i hi, there r hr, long r hr, get_or-in_rank t.rank t.n t.period r hr))

  -- that of the plan's terms, for sections and for stages
  demand_is : (section : Bool) (i time : ℕ) → i < t.n
      → demand (terms_of t p section (rank i)) time
      ≡ total (rank i) (λ r. cond (eqb (home_of t p section (row r)) (home_of t p section i)) (ceil time (get_or t.period (row r) 0) * work_of t section (row r)) 0)
  unfolding section_terms section_homes stage_terms stage_homes
  demand_is true =
      demand_before (by_rank t t.a) (section_homes t p) (work_of t true) (home_of t p true)
      (get_or-in_rank t.rank t.n t.a) (of_resource_lem t g p.serves)
  demand_is false =
      demand_before (works_of (by_rank t t.c1) (by_rank t t.c2) t.n) (stage_homes t p) (work_of t false) (home_of t p false)
      (works_of_lem t g) (get_or-in_rank t.rank t.n p.processor)

  -- of the three parts of row i those of the kind count, if its processor for them is q: C1 + C2 are two of them
  parts_of : (section : Bool) (i q c : ℕ) → i < t.n
      → total 3 (λ e. cond (on homes section q i e) (c * len_of t i e) 0) ≡ cond (eqb (home_of t p section i) q) (c * work_of t section i) 0
  unfolding total on len_of
  parts_of true i q c hi = rw (home_is i 1 hi (omega arith)) (omega arith)
  parts_of false i q c hi = rw (home_is i 0 hi (omega arith), home_is i 2 hi (omega arith)) (go (eqb (get_or p.processor i 0) q))
    where
      go : (b : Bool) → 0 + cond b (c * get_or t.c1 i 0) 0 + 0 + cond b (c * get_or t.c2 i 0) 0 ≡ cond b (c * (get_or t.c1 i 0 + get_or t.c2 i 0)) 0
      go true = omega (arith, mul-add c (get_or t.c1 i 0) (get_or t.c2 i 0))
      go false = omega arith

  -- what the better-ranked parts of the kind of part j of row i ask for on its processor within a time
  abbrev asked : ℕ → ℕ → ℕ → ℕ
  asked i j time =
      sum (get_or (chart_of t p).rank i 0) (λ r e. cond (on homes (is_section j) (home homes i j) (row r) e) (ceil time (get_or t.period (row r) 0) * len_of t (row r) e) 0)

  -- it is the demand of the plan's terms
  asked_is : (i j time : ℕ) → i < t.n → j < 3 → asked i j time ≡ demand (terms_of t p (is_section j) (rank i)) time
  unfolding chart_of
  asked_is i j time hi hj =
      total_ext (rank i) _ _ (λ r l.
      let hr = (row_at r (omega (arith, rank_lt i hi))).0 in
      parts_of (is_section j) (row r) (home homes i j) (ceil time (get_or t.period (row r) 0)) hr ∙ rw (home_is i j hi hj))
      ∙ sym (demand_is (is_section j) i time hi)

  -- the plan and the chart have a section on the same processor
  section_at : (i : ℕ) → i < t.n → get_or (section_homes t p) (rank i) 0 ≡ home homes i 1
  unfolding section_homes
  section_at i hi = at_its_rank (section_homes t p) (home_of t p true) (of_resource_lem t g p.serves) i hi ∙ sym (home_is i 1 hi (omega arith))

  -- the ceilings of the tasks' resources in rank order
  abbrev tops : List ℕ
  tops = of_resource t.ceiling (by_rank t t.resource) t.n

  -- a lower-ranked section on k's processor with a ceiling at or above k's rank may block k
  may_block_lem : (k i : ℕ) → k < t.n → i < t.n → rank k < rank i → home homes i 1 ≡ home homes k 1 → get_or (chart_of t p).top i 0 ≤ rank k
      → may_block t.npp tops (section_homes t p) (rank k) (rank i) ≡ true
  unfolding may_block
  may_block_lem k i hk hi lower same high =
      let there = section_at i hi ∙ same ∙ sym (section_at k hk) in
      let top = at_its_rank tops ceiling (of_resource_lem t g t.ceiling) i hi in
      rw (lt-ltb (rank k) (rank i) lower, eq-eqb _ _ there, top) (go t.npp (rw (top_is i hi) at high))
    where
      go : (npp : Bool) → cond npp 0 (ceiling i) ≤ rank k → npp || leb (ceiling i) (rank k) ≡ true
      go true h = refl
      go false h = le-leb (ceiling i) (rank k) h

  -- so it is no longer than the blocking of k and one unit more
  pub room : (k i : ℕ) → k < (chart_of t p).n → i < (chart_of t p).n → get_or (chart_of t p).rank k 0 < get_or (chart_of t p).rank i 0
      → home homes i 1 ≡ home homes k 1 → get_or (chart_of t p).top i 0 ≤ get_or (chart_of t p).rank k 0 → len_of t i 1 ≤ blocking t p (rank k) + 1
  unfolding chart_of len_of blocking
  room k i hk hi lower same high =
      let own = at_rank t.period t.rank t.n g.rows.1 g.ranks t.a i hi in
      let may = may_block_lem k i hk hi lower same high in
      let covered = blocking_covers t.npp (by_rank t t.a) tops (section_homes t p) (rank k) t.n (rank i) (rank_lt i hi) may in
      omega arith

  module _ (st : Stands t p) where
    -- what the plan keeps of a bound, for each of the three parts
    part_covers : (i j : ℕ) → i < t.n → j < 3
        → Covers (terms_of t p (is_section j) (rank i)) (len_of t i j) (cond (is_section j) (blocking t p (rank i)) 0) (bound_of p i j)
    unfolding len_of bound_of
    part_covers i zero hi hj = st.first i hi
    part_covers i (suc zero) hi hj = st.section i hi
    part_covers i (suc (suc zero)) hi hj = st.second i hi
    part_covers i (suc (suc (suc j))) hi hj = absurd (omega arith)

    -- a bound is not below its demand
    pub bound_covers : (i j : ℕ) → i < (chart_of t p).n → j < 3 → 1 ≤ len_of t i j
        → len_of t i j + cond (is_section j) (blocking t p (rank i)) 0 + asked i j (get_or (chart_of t p).bounds (3 * i + j) 0) ≤ get_or (chart_of t p).bounds (3 * i + j) 0
    unfolding chart_of
    bound_covers i j hi hj long = rw (bound_is i j hi hj, asked_is i j (bound_of p i j) hi hj) ((part_covers i j hi hj).covers long)

    -- the bounds of a row fit its period, and its arrivals are valid
    pub fits : (ar : Arrivals) → Valid t ar → (i : ℕ) → i < (chart_of t p).n → RowFit (chart_of t p).bounds i (ar i) (get_or t.period i 0) (len_of t i)
    unfolding chart_of release_of bound_of
    fits ar va i hi =
        record {
          timed = λ j hj long. omega (arith, bound_is i j hi hj, (part_covers i j hi hj).some long);
          sum = omega (arith, release_is i 0 3 hi (omega arith), st.sum i hi);
          apart = λ a b ls ks. va.apart i a b ls ks hi;
          lengths = λ a ls. va.lengths i a ls hi;
        }

    -- processors 1 to s serve sections, and s + 1 to m serve stages
    section_low : (i : ℕ) → i < t.n → 1 ≤ len_of t i 1 → home homes i 1 ≤ p.s
    unfolding len_of
    section_low i hi long = omega (arith, home_is i 1 hi (omega arith), st.served i hi (names_resource t g i hi long))

    stage_high : (i j : ℕ) → i < t.n → j < 3 → (j ≡ 1 → ⊥) → (p.s < home homes i j) × (home homes i j ≤ t.m)
    stage_high i j hi hj other = rw (home_is i j hi hj, ne_eqb j 1 other) (st.placed i hi)

    -- so each is one of processors 1 to 16, and no section is on a processor of a stage
    pub home-lt : (i j : ℕ) → i < (chart_of t p).n → j < 3 → 1 ≤ len_of t i j → home homes i j < 17
    unfolding chart_of
    home-lt i zero hi hj long = omega (arith, stage_high i 0 hi hj (λ e. omega arith), g.processors)
    home-lt i (suc zero) hi hj long = omega (arith, section_low i hi long, st.placed i hi, g.processors)
    home-lt i (suc (suc j)) hi hj long = omega (arith, stage_high i (suc (suc j)) hi hj (λ e. omega arith), g.processors)

    pub apart : (i k j : ℕ) → i < (chart_of t p).n → k < (chart_of t p).n → j < 3 → (j ≡ 1 → ⊥) → 1 ≤ len_of t i 1 → home homes i 1 ≡ home homes k j → ⊥
    unfolding chart_of
    apart i k j hi hk hj other long same = omega (arith, section_low i hi long, stage_high k j hk hj other)

  -- the machine of a plan that stands, field by field
  unfoldable pub system : Stands t p → (ar : Arrivals) → Valid t ar → System
  system st ar va =
      record {
        chart = chart_of t p;
        ar = ar;
        period = λ i. get_or t.period i 0;
        len = len_of t;
        block = λ i. blocking t p (get_or t.rank i 0);
        row = row_of t.rank t.n;
        fit = fits st ar va;
        positive = period_some;
        homed = home-lt st;
        ranked = rank_lt;
        rows = row_at;
        back = row_back;
        top = own_top;
        split = apart st;
        covers = bound_covers st;
        room = room;
      }
