-- `jobs::numbers` meets its contract.
use Rattle.jobs.specs.Numbers.{code_of, number_of}
use Rattle.jobs.proofs.numbers.Goals as goal
use mathlib.Core.Path.{refl}

pub returns-in-Idle : goal.returns-in-Idle
unfolding code_of number_of
returns-in-Idle c = rw c.in-Idle.is (refl, refl)

pub returns-in-Waiting : goal.returns-in-Waiting
unfolding code_of number_of
returns-in-Waiting c = rw c.in-Waiting.is (refl, refl)

pub returns-in-Running : goal.returns-in-Running
unfolding code_of number_of
returns-in-Running c = rw c.in-Running.is (refl, refl)
