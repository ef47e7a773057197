-- Texts that are values: short enough, and without control characters.
use Rattle.std.specs.Prelude.{◌≡◌, ℕ, ◌<◌, ◌≤◌, Bool, ◌||◌, ◌==◌, nat_lt, List, length, None, Some, ⊤}
use Rattle.std.specs.List.{position}
use Rattle.tt_value.specs.declared.text.BadText.{BadText}
use Rattle.tt_value.specs.declared.text.BadText.TheVariants.{TooLong, Control, Memory}

-- U+0000 to U+001F and U+007F, which are one byte each in UTF-8
abbrev pub is_control : ℕ → Bool
is_control byte = nat_lt byte 32 || byte == 127

-- the bytes of a text that is a value
pub record IsText (bytes : List ℕ) : Type 0 where
  pub short : length bytes ≤ 65535
  pub plain : position is_control bytes ≡ None

-- a byte from the blank to the tilde
abbrev pub IsPrintableAscii : ℕ → Type 0
IsPrintableAscii byte = (32 ≤ byte) × (byte < 127)

-- When a text is refused: for its length first, and else for its first control character. Want of memory is free.
abbrev pub RefusesText : List ℕ → BadText → Type 0
RefusesText bytes TooLong = 65535 < length bytes
RefusesText bytes (Control place) = (length bytes ≤ 65535) × (position is_control bytes ≡ Some place)
RefusesText bytes Memory = ⊤
