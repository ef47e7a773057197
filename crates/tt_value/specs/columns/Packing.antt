-- Packed numbers: of a given width in bits each, one after the other from the least significant bit of the first byte on.
use Rattle.std.specs.Prelude.{ℕ, zero, suc, ◌+◌, ◌-◌, ◌*◌, ◌/◌, ◌%◌, ◌^◌, List, [], ◌∷◌, length}
use Rattle.std.specs.Int.{w64, leading_zeros}

-- the number whose digits in base 2 ^ width these are, the least significant digit first
abbrev pub joined : ℕ → List ℕ → ℕ
joined width [] = 0
joined width (x ∷ xs) = x + 2 ^ width * joined width xs

-- that many digits of a number in base 2 ^ width, the least significant digit first
abbrev pub digits : ℕ → ℕ → ℕ → List ℕ
digits width zero n = []
digits width (suc count) n = n % 2 ^ width ∷ digits width count (n / 2 ^ width)

-- how many bytes hold that many bits
abbrev pub bytes_for : ℕ → ℕ
bytes_for bits = (bits + 7) / 8

-- the bytes of packed numbers: as bits, bytes and numbers are one row; the bits behind the last number are 0
abbrev pub packed : ℕ → List ℕ → List ℕ
packed width xs = digits 8 (bytes_for (length xs * width)) (joined width xs)

-- how many binary digits a number below 2 ^ 64 has; 0 has none
abbrev pub width_of : ℕ → ℕ
width_of n = 64 - leading_zeros w64 n
