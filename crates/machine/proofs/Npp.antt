-- Under NPP the chart has no ceiling above 0, so that the rule for sections is NPP's.
use Prim.Native.Nat.{ℕ, suc}
use mathlib.Core.Path.{◌≡◌}
use mathlib.Core.Bool.{true}
use mathlib.Core.List.{List}
use lib.ListN.{get_or}
use Rattle.lists.proofs.Tab.{get_or-blank}
use Rattle.table.specs.declared.Table.{Table}
use Rattle.plan.specs.declared.Plan.{Plan}
use Rattle.chain.specs.declared.Job.{Job}
use Rattle.picks.specs.Pick.{first_on, last_on, pick}
use Rattle.picks.proofs.Picked.{npp_begun_runs, npp_best_starts}
use Rattle.machine.specs.Chart.{Chart, tops_of, chart_of}

module _ (t : Table) (p : Plan) (npp : t.npp ≡ true) where
  -- every ceiling is 0
  pub npp_flat : (i : ℕ) → get_or (chart_of t p).top i 0 ≡ 0
  unfolding chart_of tops_of
  npp_flat i = rw npp (get_or-blank 64 0 i)

  -- the chart
  abbrev c : Chart
  c = chart_of t p

  module _ (js : List Job) (q : ℕ) where
    -- NPP: "a begun section runs to its end;
    pub chart_begun_runs : (y : ℕ) → last_on c.homes c.rank c.top c.n js q ≡ suc y → pick c.homes c.rank c.top c.n js q ≡ suc y
    chart_begun_runs = npp_begun_runs c.homes c.rank c.top c.n js q (λ i l. npp_flat i)

    -- then the best-ranked one starts"
    pub chart_best_starts : (x : ℕ) → last_on c.homes c.rank c.top c.n js q ≡ 0 → first_on c.homes c.rank c.top c.n js q ≡ suc x → pick c.homes c.rank c.top c.n js q ≡ suc x
    chart_best_starts = npp_best_starts c.homes c.rank c.top c.n js q (λ i l. npp_flat i)
