-- A plan that stands, whoever made it: all that demand 3 asks of a plan. Rows count from 0.
use Rattle.std.specs.Prelude.{ℕ, ◌+◌, ◌≤◌, ◌<◌, List, get_or}
use Rattle.table.specs.declared.Table.{Table}
use Rattle.bounds.specs.Demand.{Term, demand}
use Rattle.plan.specs.declared.Plan.{Plan}
use Rattle.plan.specs.Bounds.{section_terms, stage_terms, blocking}

-- a bound of a length that something may block: at least 1, and not below its demand at that bound
pub record Covers (terms : List Term) (len blocking bound : ℕ) : Type 0 where
  pub some : 1 ≤ len → 1 ≤ bound
  pub covers : 1 ≤ len → len + blocking + demand terms bound ≤ bound

-- the plan p stands for the table t
pub record Stands (t : Table) (p : Plan) : Type 0 where
  -- "Section bound S": A + B + the better-ranked sections on that processor
  pub section : (i : ℕ) → i < t.n → Covers (section_terms t p (get_or t.rank i 0)) (get_or t.a i 0) (blocking t p (get_or t.rank i 0)) (get_or p.section i 0)
  -- "Stage bounds D1 and D2: .. no B"
  pub first : (i : ℕ) → i < t.n → Covers (stage_terms t p (get_or t.rank i 0)) (get_or t.c1 i 0) 0 (get_or p.d1 i 0)
  pub second : (i : ℕ) → i < t.n → Covers (stage_terms t p (get_or t.rank i 0)) (get_or t.c2 i 0) 0 (get_or p.d2 i 0)
  -- "D1 + S + D2 ≤ T"
  pub sum : (i : ℕ) → i < t.n → get_or p.d1 i 0 + get_or p.section i 0 + get_or p.d2 i 0 ≤ get_or t.period i 0
  -- "processors 1 to s serve sections and s + 1 to m serve stages"
  pub served : (i : ℕ) → i < t.n → 1 ≤ get_or t.resource i 0 → get_or p.serves (get_or t.resource i 0) 0 ≤ p.s
  pub placed : (i : ℕ) → i < t.n → (p.s < get_or p.processor i 0) × (get_or p.processor i 0 ≤ t.m)
