-- The machine before tick 0.
use Rattle.lists.specs.Tab.{blank}
use Rattle.chain.specs.Release.{never}
pub use Rattle.machine.specs.declared.State.{State}

-- no task has arrived, no release is due, and nothing is noted
abbrev pub start : State
start = record { jobs = blank 576 0; due = blank 64 never; worst = blank 192 0; next = 0 }
