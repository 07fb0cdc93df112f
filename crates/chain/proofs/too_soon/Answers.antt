-- `chain::too_soon` meets its contract.
use Rattle.chain.specs.Job.{is_idle}
use Rattle.chain.proofs.Places.{idle_no}
use Rattle.chain.proofs.too_soon.Goals as goal
use Rattle.chain.proofs.too_soon.Goals.{in-Idle, in_default}

pub returns-after-matches : goal.returns-after-matches
unfolding is_idle
returns-after-matches c =
    elim c.match-matches.branch [
      | in-Idle w ↦ rw (w.matches-is, w.in-Idle.is, ← c.is_some.ensures, c.if-is_some.true)
      | in_default w ↦ rw (w.matches-is, idle_no c.args.x.place w.in_default.not-Idle, ← c.is_some.ensures, c.if-is_some.true)
    ]
