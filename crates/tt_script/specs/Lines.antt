-- The lines of a script, its directives, and the first line that is faulty.
use Rattle.std.specs.Prelude.{ℕ, ◌+◌, ◌*◌, ◌-◌, Bool, ◌||◌, ◌&&◌, not, ◌==◌, nat_eq, nat_le, if◌then◌else◌, List, [], ◌∷◌, length, slice_index, take, drop, fold, Option, Some, None, is_some, codes}
use Rattle.std.specs.List.{list_all, onto_first}
use Rattle.std.specs.Str.{is_utf8}
use Rattle.std.specs.Cmp.Lexicographic.{pointwise}
use Rattle.tt_script.specs.Bytes.{is_white, is_line_feed, is_lower, is_digit, is_session_byte}

-- ---- lines

-- the lines, each with its line feed, which the last may lack
abbrev pub lines_of : List ℕ → List (List ℕ)
lines_of [] = []
lines_of (byte ∷ bytes) = if is_line_feed byte then (byte ∷ []) ∷ lines_of bytes else onto_first byte (lines_of bytes)

-- the bytes without this one at their end
abbrev pub without_last : ℕ → List ℕ → List ℕ
without_last byte bytes = if slice_index bytes (length bytes - 1) == byte then take (length bytes - 1) bytes else bytes

-- what a directive's line says: it is without its line feed, and then without a carriage return at its end
abbrev pub said : List ℕ → List ℕ
said line = without_last 13 (without_last 10 line)

-- where the line begins in which this place is
abbrev pub line_place : ℕ → List (List ℕ) → ℕ → ℕ
line_place at [] place = at
line_place at (line ∷ lines) place = if nat_le (at + length line) place then line_place (at + length line) lines place else at

-- ---- directives

-- a line that begins with `%`
abbrev pub is_directive : List ℕ → Bool
is_directive line = slice_index line 0 == 37

-- the value where the test holds
abbrev pub only_if : {A : Type 0} → Bool → A → Option A
only_if test x = if test then Some x else None

abbrev pub decimal_value : List ℕ → ℕ
decimal_value digits = fold (λ value digit. 10 * value + (digit - 48)) 0 digits

-- 1 to 15 digits, of a moment before the year 10000
unfoldable pub is_start : List ℕ → Bool
is_start digits = (not (nat_le (length digits) 0) && nat_le (length digits) 15) && (list_all is_digit digits && nat_le (decimal_value digits) 253402300799999)

-- the moment on the line `%start n`
unfoldable pub start_on : List ℕ → Option ℕ
start_on text = only_if (pointwise nat_eq (take 7 text) (codes "%start ") && is_start (drop 7 text)) (decimal_value (drop 7 text))

-- a lower-case letter, and at most 15 more lower-case letters or digits
unfoldable pub is_session_name : List ℕ → Bool
is_session_name name = is_lower (slice_index name 0) && list_all is_session_byte name && nat_le (length name) 16

-- the name on the line `%session name`
unfoldable pub session_on : List ℕ → Option (List ℕ)
session_on text = only_if (pointwise nat_eq (take 9 text) (codes "%session ") && is_session_name (drop 9 text)) (drop 9 text)

abbrev pub begins_session : List ℕ → Bool
begins_session line = is_some (session_on (said line))

-- ---- faulty lines

-- The directives that may stand at this place, where a session has begun above it or not. `%start` is the first line,
-- and there is one session. No other directive is built yet.
abbrev pub may_stand : Bool → ℕ → List ℕ → Bool
may_stand begun at line = (at == 0 && is_some (start_on (said line))) || (not begun && begins_session line)

-- Not UTF-8; a directive that may not stand here; or with no session above it, more than white space.
unfoldable pub is_faulty : Bool → ℕ → List ℕ → Bool
is_faulty begun at line =
    not (is_utf8 line) || (if is_directive line then not (may_stand begun at line) else not (begun || list_all is_white line))

-- where the first faulty line begins
unfoldable pub first_faulty : Bool → ℕ → List (List ℕ) → Option ℕ
first_faulty begun at [] = None
first_faulty begun at (line ∷ lines) =
    if is_faulty begun at line then Some at else first_faulty (begun || begins_session line) (at + length line) lines
