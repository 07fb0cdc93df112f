-- A result whose error was turned into another: a value stays as it is, and an error comes from an error.
use mathlib.Core.Path.{◌≡◌, refl, sym, ◌∙◌, ap}
use Rattle.std.specs.Prelude.{Result, Ok, Err, is_ok, MatchResult, IsErrAnd}
use Rattle.std.proofs.lemmas.Result.{err_from_is_err_and}
use Rattle.lists.proofs.Tests.{not_both}

module _ {A E F : Type 0} (turn : E → F) where
  -- x is r with its error turned
  abbrev pub Turned : Result A E → Result A F → Type 0
  Turned r x = MatchResult r (λ a. x ≡ Ok a) (λ e. IsErrAnd x (λ l. l ≡ turn e))

  -- a value is the same in both
  pub turned_ok : (r : Result A E) (x : Result A F) (a : A) → Turned r x → x ≡ Ok a → r ≡ Ok a
  turned_ok (Ok b) x a h q =
      let w = sym h ∙ q in
      let z : b ≡ a = cc in
      ap (λ y. Ok y) z
  turned_ok (Err e) x a h q =
      let (l, p, same) = err_from_is_err_and x h in
      absurd (not_both (ap is_ok q) (ap is_ok p))

  -- an error is that of the first, turned
  pub turned_err : (r : Result A E) (x : Result A F) (d : F) → Turned r x → x ≡ Err d → (e : E) × (r ≡ Err e) × (d ≡ turn e)
  turned_err (Ok b) x d h q = absurd (not_both (ap is_ok h) (ap is_ok q))
  turned_err (Err e) x d h q =
      let (l, p, same) = err_from_is_err_and x h in
      let w = sym q ∙ p in
      let z : d ≡ l = cc in
      (e, refl, z ∙ same)
