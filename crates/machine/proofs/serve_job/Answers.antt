-- `machine::serve_job` meets its contract.
use Prim.Native.Nat.{ℕ, suc, ◌+◌}
use mathlib.Core.Path.{◌≡◌, refl, sym, ◌∙◌, ap}
use mathlib.Core.List.{List}
use native.Mathlib.Omega.{arith}
use borrow.Author.Tests.{eq-eqb, ne_eqb}
use lib.ListN.{get_or}
use Rattle.chain.specs.declared.Place.TheVariants.{Running}
use Rattle.chain.specs.declared.Job.{Job}
use Rattle.chain.specs.Unit.{unit_of}
use Rattle.picks.specs.Pick.{home}
use Rattle.machine.specs.Tick.{serve_at, serve}
use Rattle.chain.proofs.Places.{rests, part_small}
use Rattle.machine.proofs.serve_job.Goals as goal

module _ (picked bounds homes : List ℕ) (i t j l : ℕ) (x : Job) (e : x.place ≡ Running j l) where
  -- a running part that its processor does not pick stays as it is
  waits : (get_or picked (home homes i j) 0 ≡ i + 1 → ⊥) → x ≡ serve picked bounds homes t i x
  unfolding serve_at
  waits n = sym (ap (serve_at picked bounds homes t i x) e ∙ rw (ne_eqb (get_or picked (home homes i j) 0) (suc i) (λ q. n (omega arith))))

  -- and one that it picks runs a unit
  runs : get_or picked (home homes i j) 0 ≡ i + 1 → (y : Job) → y ≡ unit_of bounds i t x j l → y ≡ serve picked bounds homes t i x
  unfolding serve_at
  runs q y h = h ∙ sym (ap (serve_at picked bounds homes t i x) e ∙ rw (eq-eqb (get_or picked (home homes i j) 0) (suc i) (omega arith)))

pub returns-in_default : goal.returns-in_default
unfolding serve_at
returns-in_default c =
    let a = c.args in
    rests (λ p. a.x ≡ serve_at a.picked.now a.c.now.bounds a.c.now.homes a.t a.i a.x p) refl (λ u j. refl) a.x.place c.in_default.not-Running

pub returns-then-row-i : goal.returns-then-row-i
returns-then-row-i c =
    let a = c.args in
    waits a.picked.now a.c.now.bounds a.c.now.homes a.i a.t c.in-Running.part c.in-Running.left a.x c.in-Running.is c.if-row-i.true

pub unit-requires : goal.unit-requires
unit-requires c =
    (c.requires.0, c.requires.2, omega arith, c.requires.4.arrived, part_small c.args.x.place c.in-Running.part c.in-Running.left c.requires.4.part c.in-Running.is, c.requires.5, c.requires.6)

pub returns : goal.returns
returns c =
    let a = c.args in
    runs a.picked.now a.c.now.bounds a.c.now.homes a.i a.t c.in-Running.part c.in-Running.left a.x c.in-Running.is c.if-row-i.false c.unit.result c.unit.ensures
