-- Text in ASCII: decimal numbers, and lines of a word and numbers.
use Rattle.std.specs.Prelude.{ℕ, zero, suc, ◌+◌, ◌/◌, ◌%◌, List, [], ◌∷◌, ◌++◌, ◌≡◌, cond, length, ltb}
use Rattle.std.proofs.lemmas.List.Edits.{sets}

-- the decimal digits of n, in front of what is there; `turns` is above n
unfoldable pub spelled : ℕ → ℕ → List ℕ → List ℕ
spelled zero n behind = behind
spelled (suc turns) n behind = cond (ltb n 10) ((48 + n) ∷ behind) (spelled turns (n / 10) ((48 + n % 10) ∷ behind))

-- the decimal digits of n
unfoldable pub decimal : ℕ → List ℕ
decimal n = spelled (suc n) n []

-- numbers, with one space before each
unfoldable pub spaced : List ℕ → List ℕ
spaced [] = []
spaced (n ∷ ns) = 32 ∷ (decimal n ++ spaced ns)

-- a line: the word that it begins with, and its numbers
unfoldable pub line : List ℕ → List ℕ → List ℕ
line word ns = word ++ (spaced ns ++ (10 ∷ []))

-- `after` is `before` with the text from place `at` on, and all else as it was; `end` is the place behind the text
pub record Wrote (before : List ℕ) (at : ℕ) (after : List ℕ) (end : ℕ) (text : List ℕ) : Type 0 where
  pub ends : end ≡ at + length text
  pub bytes : after ≡ sets before at text
