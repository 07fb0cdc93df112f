-- `picks::picks` meets its contract. The loop's invariant: each processor passed has its choice.
use Prim.Native.Nat.{ℕ}
use mathlib.Core.Path.{◌≡◌}
use mathlib.Core.List.{List}
use lib.ListN.{get_or}
use Rattle.lists.specs.Tab.{filled}
use Rattle.picks.specs.Offer.{Offer, no_offer, choice}
use Rattle.picks.proofs.picks.Given as goal

abbrev pub chosen_at : List Offer → ℕ → ℕ
chosen_at offers q = let o = get_or offers q no_offer in choice o.first o.last o.stage o.held

abbrev pub invariant-loop-q : goal.invariant-loop-q
invariant-loop-q l = l.out ≡ filled 17 0 l.q (chosen_at l.offers)
