-- Bytes by what they may stand for.
use Rattle.std.specs.Prelude.{◌≡◌, ℕ, ◌+◌, ◌<◌, Bool, ◌||◌, ◌&&◌, not, ◌==◌, nat_le, List, length, drop}

-- space, tab, carriage return and line feed
abbrev pub is_white : ℕ → Bool
is_white byte = byte == 32 || byte == 9 || byte == 13 || byte == 10

abbrev pub is_line_feed : ℕ → Bool
is_line_feed byte = byte == 10

-- a byte of a line, which a line feed ends
abbrev pub is_line_byte : ℕ → Bool
is_line_byte byte = not (byte == 10)

abbrev pub is_no_quote : ℕ → Bool
is_no_quote byte = not (byte == 39)

abbrev pub is_lower : ℕ → Bool
is_lower byte = nat_le 97 byte && nat_le byte 122

abbrev pub is_digit : ℕ → Bool
is_digit byte = nat_le 48 byte && nat_le byte 57

-- a lower-case letter or a digit
abbrev pub is_session_byte : ℕ → Bool
is_session_byte byte = is_lower byte || is_digit byte

-- there is a byte at this place, and the rest stands behind it
abbrev pub StandsBehind : ℕ → List ℕ → List ℕ → Type 0
StandsBehind place bytes rest = (place < length bytes) × (rest ≡ drop (place + 1) bytes)
