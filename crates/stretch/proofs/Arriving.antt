-- The ticks before the next arrival.
use Prim.Native.Nat.{ℕ, ◌+◌, ◌*◌, ◌≤◌, ◌<◌}
use mathlib.Core.Path.{◌≡◌, refl}
use mathlib.Core.List.{List}
use mathlib.Core.Logic.{dite}
use Rattle.std.specs.Prelude.{Option, Some, None}
use native.Mathlib.Omega.{arith}
use native.Mathlib.Decide.{dec_lt}
use lib.ListN.{length}
use Rattle.arrivals.specs.declared.Arrival.{Arrival}
use Rattle.arrivals.specs.Arrival.{arrival_at, brings}
use Rattle.arrivals.specs.Seek.{key_of}
use Rattle.arrivals.proofs.Good.{rises}
use Rattle.arrivals.proofs.Seeking.{brings_at}
use Rattle.machine.specs.Good.{Coming}

module _ (n : ℕ) (xs : List Arrival) (next t u : ℕ) (c : Coming n xs next t) where
  -- the place in the arrivals stays where it is up to the tick of the next one
  pub coming_on : t ≤ u → (next < length xs → u ≤ (arrival_at xs next).tick) → Coming n xs next u
  coming_on h l =
      record {
        periods = c.periods;
        c1s = c.c1s;
        secs = c.secs;
        c2s = c.c2s;
        good = c.good;
        few = c.few;
        seek = record { inside = c.seek.inside; past = λ k b. omega (arith, c.seek.past k b); ahead = ahead };
      }
    where
      first : next < length xs → u * 64 + 1 ≤ key_of (arrival_at xs next)
      first b = omega (arith, l b, c.good.rows next b)

      ahead : (k : ℕ) → next ≤ k → k < length xs → u * 64 + 1 ≤ key_of (arrival_at xs k)
      ahead k a b =
          dite (dec_lt next k)
          (λ s. omega (arith, first (omega arith), rises (λ i. key_of (arrival_at xs i)) (length xs) c.good.sorted next k s b))
          (λ s.
          let e : k ≡ next = omega arith in
          rw e (first (omega arith)))

  -- and no arrival comes before
  pub none_between : n ≤ 64 → Coming n xs next u → (i v : ℕ) → i < n → t ≤ v → v < u → brings xs i v ≡ None
  none_between few d i v l a b = go (brings xs i v) refl
    where
      go : (o : Option (List ℕ)) → brings xs i v ≡ o → o ≡ None
      go None e = refl
      go (Some ls) e =
          let p = brings_at xs i v ls e in
          dite (dec_lt p.place next)
          (λ s. absurd (omega (arith, c.seek.past p.place s)))
          (λ s. absurd (omega (arith, d.seek.ahead p.place (omega arith) p.below)))
