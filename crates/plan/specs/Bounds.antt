-- What the bounds of a plan are to be, whoever made the plan: said of the table and the plan alone, without a search or a trial.
-- Rows count from 0; k is the rank of a row.
use Rattle.std.specs.Prelude.{ℕ, ◌+◌, ◌≤◌, ◌<◌, ◌≡◌, List, get_or}
use Rattle.table.specs.declared.Table.{Table}
use Rattle.bounds.specs.Demand.{Term}
use Rattle.bounds.specs.Terms.{terms_on}
use Rattle.bounds.specs.Bound.{LeastBound}
use Rattle.sections.specs.Blocking.{blocking_of}
use Rattle.spread.specs.Weight.{Used}
use Rattle.plan.specs.declared.Plan.{Plan}
use Rattle.plan.specs.Tasks.{by_rank, works_of, of_resource}

module _ (t : Table) (p : Plan) where
  -- the processor of each task's section, and that of its stages
  unfoldable pub section_homes : List ℕ
  section_homes = of_resource p.serves (by_rank t t.resource) t.n

  unfoldable pub stage_homes : List ℕ
  stage_homes = by_rank t p.processor

  -- "better-ranked tasks i with a section on that processor": ceil(t / T_i) × A_i
  unfoldable pub section_terms : ℕ → List Term
  section_terms k = terms_on (by_rank t t.period) (by_rank t t.a) section_homes (get_or section_homes k 0) k

  -- "for each better-ranked task i on the same application processor": ceil(t / T_i) × (C1_i + C2_i)
  unfoldable pub stage_terms : ℕ → List Term
  stage_terms k = terms_on (by_rank t t.period) (works_of (by_rank t t.c1) (by_rank t t.c2) t.n) stage_homes (get_or stage_homes k 0) k

  -- "Blocking B" of the task of rank k
  unfoldable pub blocking : ℕ → ℕ
  blocking k = blocking_of t.npp (by_rank t t.a) (of_resource t.ceiling (by_rank t t.resource) t.n) section_homes t.n k

  -- row i: each bound is the least that covers its demand, the three fit into the period, the processor is one for stages
  pub record RowBounds (i : ℕ) : Type 0 where
    pub section : LeastBound (section_terms (get_or t.rank i 0)) (get_or t.a i 0) (blocking (get_or t.rank i 0)) (get_or p.section i 0)
    pub first : LeastBound (stage_terms (get_or t.rank i 0)) (get_or t.c1 i 0) 0 (get_or p.d1 i 0)
    pub second : LeastBound (stage_terms (get_or t.rank i 0)) (get_or t.c2 i 0) 0 (get_or p.d2 i 0)
    pub sum : get_or p.d1 i 0 + get_or p.section i 0 + get_or p.d2 i 0 ≤ get_or t.period i 0
    pub processor : (p.s < get_or p.processor i 0) × (get_or p.processor i 0 ≤ t.m)

  -- resource r: on one of processors 1 to s where a row uses it, and on none otherwise
  pub record Served (r : ℕ) : Type 0 where
    pub on : Used t.resource r t.n → (1 ≤ get_or p.serves r 0) × (get_or p.serves r 0 ≤ p.s)
    pub off : (Used t.resource r t.n → ⊥) → get_or p.serves r 0 ≡ 0
