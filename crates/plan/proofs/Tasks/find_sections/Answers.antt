-- `plan::Tasks::find_sections` meets its contract.
use Rattle.plan.proofs.Trials.{sections_good}
use Rattle.plan.proofs.Tasks.find_sections.Goals as goal

pub section_bounds-requires : goal.section_bounds-requires
section_bounds-requires c = rw c.of_resource-home.ensures (sections_good c.args.self.now c.requires.0 c.args.processor.now c.requires.1)
