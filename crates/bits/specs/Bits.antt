-- "Bit-packed fields, most significant bit first."
use Rattle.std.specs.Prelude.{ℕ, zero, suc, ◌+◌, ◌-◌, ◌*◌, ◌/◌, ◌%◌, ◌^◌, List, get_or}

-- the bit at place p
abbrev pub bit_at : List ℕ → ℕ → ℕ
bit_at bs p = get_or bs (p / 8) 0 / 2 ^ (7 - p % 8) % 2

-- the value of the w bits from place `at` on
unfoldable pub bits_value : List ℕ → ℕ → ℕ → ℕ
bits_value bs at zero = 0
bits_value bs at (suc w) = bits_value bs at w * 2 + bit_at bs (at + w)
