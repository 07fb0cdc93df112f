-- Fields of bits, "most significant bit first", as bytes.
use Rattle.std.specs.Prelude.{ℕ, zero, suc, ◌+◌, ◌*◌, ◌/◌, ◌%◌, ◌^◌, ◌<◌, List, [], ◌∷◌, ◌++◌}

-- so many bits, and the number that they say
pub record Field : Type 0 where
  pub width : ℕ
  pub value : ℕ

-- how many bits the fields have
unfoldable pub width : List Field → ℕ
width [] = 0
width (f ∷ fs) = f.width + width fs

-- the number that the bits of the fields say, one field behind the other, behind those of `ahead`
unfoldable pub behind : ℕ → List Field → ℕ
behind ahead [] = ahead
behind ahead (f ∷ fs) = behind (ahead * 2 ^ f.width + f.value) fs

-- every value can be said in its bits
pub data Fit : List Field → Type 0 where
  none : Fit []
  more : {f : Field} {fs : List Field} → f.value < 2 ^ f.width → Fit fs → Fit (f ∷ fs)

-- a number in so many bytes, the most significant first
unfoldable pub bytes_of : ℕ → ℕ → List ℕ
bytes_of zero x = []
bytes_of (suc count) x = bytes_of count (x / 256) ++ (x % 256 ∷ [])

-- the bytes of fields that fill them
unfoldable pub packed : List Field → List ℕ
packed fs = bytes_of (width fs / 8) (behind 0 fs)
