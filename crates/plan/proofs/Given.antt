-- The plan of a table that is given in numbers, for worked examples.
use Rattle.std.specs.Prelude.{Result}
use Rattle.lists.specs.Tab.{blank}
use Rattle.lists.specs.Largest.{largest}
use Rattle.lists.specs.Smallest.{smallest}
use Rattle.rank.specs.Order.{in_rank, in_rows, numbers_to}
use Rattle.table.specs.Table.{table_in}
use Rattle.table.proofs.Given.{Given, reading}
use Rattle.bounds.specs.Demand.{ceil, demand}
use Rattle.bounds.specs.Terms.{terms_on}
use Rattle.bounds.specs.Sequence.{sequence, first_above}
use Rattle.bounds.specs.Bound.{least, bound_of}
use Rattle.sections.specs.Blocking.{may_block, largest_a, blocking_of}
use Rattle.sections.specs.Section.{section_bound, first_missing, missing_value, bounds_found, sections_of}
use Rattle.stages.specs.Fit.{fit_of, fit_among, place_with, smallest_broke, place_among}
use Rattle.stages.specs.Stage.{fit_on, placed, place_of, first_nowhere, nowhere_value, stages_to, stages_of}
use Rattle.spread.specs.Weight.{weight_of, weights_of, used_of, lacks_of, heaviest_of}
use Rattle.spread.specs.Spread.{lightest_of, loads_of, serves_of}
use Rattle.plan.specs.declared.Plan.{Plan}
use Rattle.plan.specs.declared.NoPlan.{NoPlan}
use Rattle.plan.specs.Tasks.{weighed, tasks_of}
use Rattle.plan.specs.Trial.{number_of, names_of, mark_of, value_of, plan_by, serves, homes, sections, stages, trial_of}
use Rattle.plan.specs.Planning.{failures, planning_of, planned_of}

-- what planning makes of it; whoever unfolds this unfolds all that reading and planning compute by
unfoldable pub planning : Given → Result Plan NoPlan
unfolding reading blank largest smallest in_rank in_rows numbers_to ceil demand terms_on sequence first_above least bound_of may_block largest_a blocking_of section_bound first_missing missing_value bounds_found sections_of fit_of fit_among place_with smallest_broke place_among fit_on placed place_of first_nowhere nowhere_value stages_to stages_of weight_of weights_of used_of lacks_of heaviest_of lightest_of loads_of serves_of weighed tasks_of number_of names_of mark_of value_of plan_by serves homes sections stages trial_of failures planning_of planned_of
planning t = planned_of (table_in (reading t))
