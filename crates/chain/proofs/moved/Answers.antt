-- `chain::moved` meets its contract.
use Rattle.chain.specs.Job.{is_idle, moved}
use Rattle.chain.proofs.Places.{idle_no}
use Rattle.chain.proofs.moved.Goals as goal
use Rattle.chain.proofs.moved.Goals.{in-Idle, in_default}

pub returns : goal.returns
unfolding moved is_idle
returns c =
    elim c.match-matches.branch [
      | in-Idle w ↦ rw (c.from.ensures, w.matches-is, w.in-Idle.is)
      | in_default w ↦ rw (c.from.ensures, w.matches-is, idle_no c.args.p w.in_default.not-Idle)
    ]
