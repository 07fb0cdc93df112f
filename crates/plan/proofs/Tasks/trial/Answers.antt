-- `plan::Tasks::trial` meets its contract. Each return is one case of a trial.
use mathlib.Core.Path.{refl, sym, ◌∙◌, ap}
use native.Mathlib.Omega.{arith}
use Rattle.std.proofs.Common.{rules}
use Rattle.std.specs.Prelude.{Err}
use Rattle.std.proofs.lemmas.Result.{err_from_is_err_and, MatchResult-weaker}
use Rattle.plan.specs.Trial.{planned, homes, sections}
use Rattle.plan.proofs.Trials.{lacks_bound, lacks_place, serves_small, found_short, missing_task, stuck_task, stages_at, trial_at}
use Rattle.plan.proofs.Turned.{Turned, turned_ok, turned_err}
use Rattle.plan.proofs.Tasks.trial.Goals as goal

pub find_sections-requires : goal.find_sections-requires
find_sections-requires c = (c.requires.0, rw c.serve-serves.ensures (serves_small c.args.self.now c.requires.0 c.args.s c.requires.1 c.requires.2))

pub map_err-requires : goal.map_err-requires
unfolding sections homes
map_err-requires c e q _ _ _ _ =
    let found = sym (rw c.serve-serves.ensures at c.find_sections.ensures) ∙ q in
    omega (arith, missing_task c.args.self.now c.args.s e found, c.requires.0.few)

pub returns-in_err-section : goal.returns-in_err-section
unfolding sections homes
returns-in_err-section c =
    let t = c.args.self.now in
    let turned : Turned (lacks_bound t) c.find_sections.result c.map_err.result = MatchResult-weaker c.find_sections.result c.map_err.ensures.cases (λ x h. h) (λ e h. search rules) in
    let (e, q, same) = turned_err (lacks_bound t) _ _ _ turned c.in_err-section.was in
    let found = sym (rw c.serve-serves.ensures at c.find_sections.ensures) ∙ q in
    let p = err_from_is_err_and c.from_residual.result c.from_residual.ensures.1 in
    rw (p.1, p.2) (ap (λ l. Err l) same ∙ sym (trial_at t c.args.s _ _ found refl))

pub find_places-requires : goal.find_places-requires
unfolding sections homes
find_places-requires c =
    let t = c.args.self.now in
    let turned : Turned (lacks_bound t) c.find_sections.result c.map_err.result = MatchResult-weaker c.find_sections.result c.map_err.ensures.cases (λ x h. h) (λ e h. search rules) in
    let found = sym (rw c.serve-serves.ensures at c.find_sections.ensures) ∙ turned_ok (lacks_bound t) _ _ _ turned c.in_ok-section.was in
    (c.requires.0, c.requires.1, found_short t c.args.s c.requires.0 _ found)

pub map_err-requires-2 : goal.map_err-requires-2
unfolding sections homes
map_err-requires-2 c e q _ _ _ _ =
    let t = c.args.self.now in
    let turned : Turned (lacks_bound t) c.find_sections.result c.map_err.result = MatchResult-weaker c.find_sections.result c.map_err.ensures.cases (λ x h. h) (λ e h. search rules) in
    let found = sym (rw c.serve-serves.ensures at c.find_sections.ensures) ∙ turned_ok (lacks_bound t) _ _ _ turned c.in_ok-section.was in
    let placed = stages_at t c.args.s _ found ∙ sym c.find_places.ensures ∙ q in
    omega (arith, stuck_task t c.args.s e placed, c.requires.0.few)

pub returns-in_err-placed : goal.returns-in_err-placed
unfolding sections homes
returns-in_err-placed c =
    let t = c.args.self.now in
    let turned : Turned (lacks_bound t) c.find_sections.result c.map_err.result = MatchResult-weaker c.find_sections.result c.map_err.ensures.cases (λ x h. h) (λ e h. search rules) in
    let found = sym (rw c.serve-serves.ensures at c.find_sections.ensures) ∙ turned_ok (lacks_bound t) _ _ _ turned c.in_ok-section.was in
    let turned2 : Turned (lacks_place t) c.find_places.result c.map_err-2.result = MatchResult-weaker c.find_places.result c.map_err-2.ensures.cases (λ x h. h) (λ e h. search rules) in
    let (e, q, same) = turned_err (lacks_place t) _ _ _ turned2 c.in_err-placed.was in
    let placed = stages_at t c.args.s _ found ∙ sym c.find_places.ensures ∙ q in
    let p = err_from_is_err_and c.from_residual-in_err-placed.result c.from_residual-in_err-placed.ensures.1 in
    rw (p.1, p.2) (ap (λ l. Err l) same ∙ sym (trial_at t c.args.s _ _ found placed))

pub returns : goal.returns
unfolding sections homes
returns c =
    let t = c.args.self.now in
    let turned : Turned (lacks_bound t) c.find_sections.result c.map_err.result = MatchResult-weaker c.find_sections.result c.map_err.ensures.cases (λ x h. h) (λ e h. search rules) in
    let found = sym (rw c.serve-serves.ensures at c.find_sections.ensures) ∙ turned_ok (lacks_bound t) _ _ _ turned c.in_ok-section.was in
    let turned2 : Turned (lacks_place t) c.find_places.result c.map_err-2.result = MatchResult-weaker c.find_places.result c.map_err-2.ensures.cases (λ x h. h) (λ e h. search rules) in
    let placed = stages_at t c.args.s _ found ∙ sym c.find_places.ensures ∙ turned_ok (lacks_place t) _ _ _ turned2 c.in_ok-placed.was in
    rw c.serve-serves.ensures at (ap planned c.plan_by.ensures) ∙ sym (trial_at t c.args.s _ _ found placed)
