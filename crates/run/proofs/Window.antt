-- A run of w ticks from tick f on is the window of the run of f + w ticks from tick 0 on.
use Prim.Native.Nat.{ℕ, ◌+◌, ◌*◌, ◌≤◌}
use mathlib.Core.Path.{◌≡◌, sym, ◌∙◌}
use mathlib.Core.List.{List, ◌++◌}
use native.Mathlib.Omega.{arith}
use native.Mathlib.Nat.{zero-add, mul-add}
use lib.ListN.{length, take, drop}
use lib.Seq.{take_at, drop-append-le}
use Rattle.lists.proofs.Tab.{length-tab}
use Rattle.lists.proofs.Joined.{length-joined, drop-joined}
use Rattle.arrivals.specs.declared.Arrival.{Arrival}
use Rattle.arrivals.specs.Arrival.{brings}
use Rattle.machine.specs.declared.Chart.{Chart}
use Rattle.machine.specs.Tick.{bytes, bytes_at}
use Rattle.run.specs.Run.{log, stepped_of}

module _ (c : Chart) (xs : List Arrival) where
  -- m bytes for each tick
  length-lane : (t : ℕ) → length (bytes_at c (brings xs) t) ≡ c.m
  unfolding bytes_at bytes
  length-lane t = length-tab c.m _

  -- and m × w in all
  pub length-log : (f w : ℕ) → length (log c xs f w) ≡ c.m * w
  unfolding log
  length-log f w = length-joined c.m _ (λ k. length-lane (f + k)) w

  module _ (f w : ℕ) where
    -- its bytes are the last of those
    pub window_log : drop (c.m * f) (log c xs 0 (f + w)) ≡ log c xs f w
    unfolding log
    window_log = simp zero-add (drop-joined c.m (bytes_at c (brings xs)) length-lane f w)

    -- and it answers the same
    pub window_stepped : stepped_of c xs f w ≡ stepped_of c xs 0 (f + w)
    unfolding stepped_of
    window_stepped = rw (zero-add (f + w))

    -- the same of traces that have these bytes in front
    pub window_front : (rest All-rest : List ℕ) → take (c.m * w) (log c xs f w ++ rest) ≡ take (c.m * w) (drop (c.m * f) (log c xs 0 (f + w) ++ All-rest))
    window_front rest All-rest =
        let h : c.m * f ≤ length (log c xs 0 (f + w)) = omega (arith, length-log 0 (f + w), mul-add c.m f w) in
        rw (drop-append-le (c.m * f) (log c xs 0 (f + w)) All-rest h, window_log)
        (take_at (log c xs f w) rest (c.m * w) (length-log f w) ∙ sym (take_at (log c xs f w) All-rest (c.m * w) (length-log f w)))
