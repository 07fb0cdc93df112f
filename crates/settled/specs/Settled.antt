-- What it is for a contract to settle its result. A contract is its `requires` and its `ensures`: a claim about the arguments, and one about the arguments, the result and the last content of each lent buffer.
use Rattle.std.specs.Prelude.{◌≡◌}
use contract.Lifetimes.{Lfts}
use denote.Triple.Entry.{Args, Res}
use denote.Triple.Clauses.{Ended, Lasts, AtExit, at_exit}

-- of a function with this signature
module _ (T : Ended) where
  abbrev pub Requires : Type 1
  Requires = (κs : Lfts T.signature.lifetimes) → Args T.signature κs → Type 0

  abbrev pub Ensures : Type 1
  Ensures = (κs : Lfts T.signature.lifetimes) → Args T.signature κs → Res T.signature κs → AtExit T κs → Type 0

  -- what a call gives: its result, and the last content of what it was lent
  abbrev pub Given : (κs : Lfts T.signature.lifetimes) → Args T.signature κs → Type 0
  Given κs a = Res T.signature κs × Lasts T κs a

  -- the contract allows a call to give this
  abbrev pub Allows : Ensures → (κs : Lfts T.signature.lifetimes) (a : Args T.signature κs) → Given κs a → Type 0
  Allows Post κs a (x, v) = Post κs a x (at_exit T κs a v)

  -- any two things that the contract allows a call to give are alike
  abbrev pub Agrees : ((κs : Lfts T.signature.lifetimes) (a : Args T.signature κs) → Given κs a → Given κs a → Type 0) → Requires → Ensures → Type 0
  Agrees Alike Pre Post = (κs : Lfts T.signature.lifetimes) (a : Args T.signature κs) (r s : Given κs a) → Pre κs a → Allows Post κs a r → Allows Post κs a s → Alike κs a r s

  -- "any two results allowed by a statement are the same"
  abbrev pub Settles : Requires → Ensures → Type 0
  Settles = Agrees (λ κs a r s. (r.0 ≡ s.0) × (r.1 ≡ s.1))

  -- a program gives something for each call; it meets the contract if that is allowed
  abbrev pub Program : Type 0
  Program = (κs : Lfts T.signature.lifetimes) (a : Args T.signature κs) → Given κs a

  abbrev pub Meets : Requires → Ensures → Program → Type 0
  Meets Pre Post f = (κs : Lfts T.signature.lifetimes) (a : Args T.signature κs) → Pre κs a → Allows Post κs a (f κs a)
