-- What may follow the time of day in a timestamp, read from left to right.
use Rattle.std.specs.Prelude.{ℕ, ◌+◌, ◌*◌, ◌-◌, List, [], ◌∷◌, Option, Some, None, ◌==◌, if◌then◌else◌}
use Rattle.std.specs.Char.{is_ascii_digit}

abbrev pub end_at : List ℕ → ℕ → Option ℕ
end_at [] read = Some read
end_at (b ∷ rest) read = None

-- `Z` or nothing
abbrev pub zone_at : List ℕ → ℕ → Option ℕ
zone_at [] read = Some read
zone_at (b ∷ rest) read = if b == 90 then end_at rest read else None

abbrev pub third_digit_at : List ℕ → ℕ → Option ℕ
third_digit_at [] read = Some read
third_digit_at (b ∷ rest) read = if is_ascii_digit b then zone_at rest (read + (b - 48)) else zone_at (b ∷ rest) read

abbrev pub second_digit_at : List ℕ → ℕ → Option ℕ
second_digit_at [] read = Some read
second_digit_at (b ∷ rest) read = if is_ascii_digit b then third_digit_at rest (read + 10 * (b - 48)) else zone_at (b ∷ rest) read

abbrev pub first_digit_at : List ℕ → Option ℕ
first_digit_at [] = None
first_digit_at (b ∷ rest) = if is_ascii_digit b then second_digit_at rest (100 * (b - 48)) else None

-- a fraction or none, and then `Z` or nothing
abbrev pub tail_at : List ℕ → Option ℕ
tail_at [] = Some 0
tail_at (b ∷ rest) = if b == 46 then first_digit_at rest else zone_at (b ∷ rest) 0
