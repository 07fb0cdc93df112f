-- The value that goes with the first missing section bound.
use Prim.Native.Nat.{ℕ, ◌+◌, ◌≤◌, ◌<◌, zero-le}
use mathlib.Core.Path.{◌≡◌, refl}
use mathlib.Core.List.{List}
use mathlib.Core.Bool.{Bool, true}
use mathlib.Core.Logic.{dite}
use native.Mathlib.Omega.{arith}
use native.Mathlib.Decide.{dec_lt}
use borrow.Author.Tests.{lt-ltb, le-ltb}
use lib.ListN.{get_or}
use Rattle.std.specs.Prelude.{Ok, Err}
use Rattle.lists.proofs.First.{first_yes}
use Rattle.bounds.specs.Demand.{Term}
use Rattle.bounds.specs.Terms.{terms_on}
use Rattle.bounds.specs.Sequence.{Breaks}
use Rattle.bounds.specs.Bound.{Bound, is_missing, broke_of}
use Rattle.bounds.proofs.Terms.{on_good, length-on}
use Rattle.bounds.proofs.Search.{broke_exactly, broke_small}
use Rattle.sections.specs.Blocking.{blocking_of}
use Rattle.sections.specs.Good.{GoodSections}
use Rattle.sections.specs.Section.{section_bound, first_missing, missing_value}
use Rattle.sections.proofs.Blocks.{blocking-le}

module _ (npp : Bool) (periods sections tops homes : List ℕ) (n : ℕ) where
  -- the first task whose bound is missing, the terms that count in it, and its B
  abbrev pub lacking : ℕ
  lacking = first_missing npp periods sections tops homes n

  abbrev pub lacking_terms : List Term
  lacking_terms = terms_on periods sections homes (get_or homes lacking 0) lacking

  abbrev pub lacking_b : ℕ
  lacking_b = blocking_of npp sections tops homes n lacking

  -- the value is the first member above T of the sequence that starts with A + B
  pub missing_breaks : lacking < n → Breaks lacking_terms (get_or sections lacking 0 + lacking_b) (get_or periods lacking 0) (missing_value npp periods sections tops homes n)
  unfolding missing_value section_bound first_missing
  missing_breaks l =
      rw (lt-ltb lacking n l) (go (section_bound npp periods sections tops homes n lacking) refl (first_yes n (λ j. is_missing (section_bound npp periods sections tops homes n j)) l))
    where
      go : (b : Bound) → section_bound npp periods sections tops homes n lacking ≡ b → is_missing b ≡ true → Breaks lacking_terms (get_or sections lacking 0 + lacking_b) (get_or periods lacking 0) (broke_of b)
      go (Ok t) e h = cc
      go (Err v) e h = ((broke_exactly lacking_terms lacking_b (get_or periods lacking 0) v.value (get_or sections lacking 0)).0 e).1

  -- and it fits into 32 bits
  pub missing_small : GoodSections periods sections homes n → missing_value npp periods sections tops homes n ≤ 130000000
  unfolding missing_value section_bound
  missing_small g = dite (dec_lt lacking n) some (λ l. rw (le-ltb lacking n (omega arith)) zero-le)
    where
      some : lacking < n → missing_value npp periods sections tops homes n ≤ 130000000
      some l =
          let t = g.terms lacking l in
          rw (lt-ltb lacking n l)
          (broke_small lacking_terms (get_or sections lacking 0) lacking_b (get_or periods lacking 0)
          (on_good periods sections homes (get_or homes lacking 0) lacking (λ i h. g.terms i (omega arith)))
          (omega (arith, length-on periods sections homes (get_or homes lacking 0) lacking, g.few))
          (omega (arith, t.short, t.period.1))
          (blocking-le npp sections tops homes lacking n 1000000 (λ i s. omega (arith, (g.terms i s).short, (g.terms i s).period.1)))
          t.period.1)
