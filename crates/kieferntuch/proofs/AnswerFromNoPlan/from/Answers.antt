-- The answer to a table without a plan is refusal 11.
use borrow.Author.Rules.{rules}
use Rattle.plan.specs.Trial.{number_of, names_of, mark_of, value_of}
use Rattle.kieferntuch.proofs.AnswerFromNoPlan.from.Goals as goal

pub returns : goal.returns
unfolding number_of names_of mark_of value_of
returns c = search rules
