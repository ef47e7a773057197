-- How a staged file is cut into records, and a record into fields.
use Rattle.std.specs.List.{slice_split, starts_with}
use Rattle.std.specs.Prelude.{Bool, List, None, Option, Some, [], drop, false, filter, filter_map, if◌then◌else◌, length, map, nat_eq, not, true, ℕ, ◌==◌, ◌||◌, ◌∷◌}
use Rattle.std.specs.Str.{byte}
use Rattle.tt_plain.specs.text.RefusalTable.{line}

-- what a byte is in the text: a byte of a field, a quote around one, a comma between two, or the end of a line
pub data Mark : Type 0 where
  Byte : ℕ → Mark
  Quote : Mark
  Comma : Mark
  LineEnd : Mark

-- where the text stands: before a field, in a field, between quotes, or behind a quote that may close them
pub data Place : Type 0 where
  Before : Place
  Inside : Place
  Quoted : Place
  AfterQuote : Place

-- outside quotes a comma parts fields, and a line feed or a carriage return ends the line; all else is the field's own
abbrev pub plain_mark : ℕ → Mark × Place
plain_mark byte =
    if byte == 44 then (Comma, Before)
    else if byte == 10 || byte == 13 then (LineEnd, Before)
    else (Byte byte, Inside)

-- Only before a field does a quote open quotes. Between them it closes them, but two quotes stand for one.
abbrev pub mark_of : Place → ℕ → Mark × Place
mark_of Before byte = if byte == 34 then (Quote, Quoted) else plain_mark byte
mark_of Inside byte = plain_mark byte
mark_of Quoted byte = if byte == 34 then (Quote, AfterQuote) else (Byte byte, Quoted)
mark_of AfterQuote byte = if byte == 34 then (Byte byte, Quoted) else plain_mark byte

abbrev pub marks_from : Place → List ℕ → List Mark
marks_from place [] = []
marks_from place (byte ∷ bytes) = (mark_of place byte).0 ∷ marks_from ((mark_of place byte).1) bytes

-- a byte order mark at the front is no part of the text
abbrev pub without_order_mark : List ℕ → List ℕ
without_order_mark bytes = if starts_with nat_eq bytes (239 ∷ 187 ∷ 191 ∷ []) then drop 3 bytes else bytes

abbrev pub is_line_end : Mark → Bool
is_line_end (Byte byte) = false
is_line_end Quote = false
is_line_end Comma = false
is_line_end LineEnd = true

abbrev pub is_comma : Mark → Bool
is_comma (Byte byte) = false
is_comma Quote = false
is_comma Comma = true
is_comma LineEnd = false

abbrev pub byte_of : Mark → Option ℕ
byte_of (Byte byte) = Some byte
byte_of Quote = None
byte_of Comma = None
byte_of LineEnd = None

abbrev pub is_blank : List Mark → Bool
is_blank line = length line == 0

-- the fields of a line, without their quotes
abbrev pub fields_of : List Mark → List (List ℕ)
fields_of line = map (filter_map byte_of) (slice_split is_comma line)

-- The records of a file, each with its fields. A line without any byte is none.
unfoldable pub records_of : List ℕ → List (List (List ℕ))
records_of bytes = map fields_of (filter (λ line. not (is_blank line)) (slice_split is_line_end (marks_from Before (without_order_mark bytes))))
