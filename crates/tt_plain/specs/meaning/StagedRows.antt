-- The rows of a staged file for a table, or why it is refused.
use Rattle.std.specs.Char.{is_ascii_digit}
use Rattle.std.specs.Fmt.{digits}
use Rattle.std.specs.List.{list_all}
use Rattle.std.specs.Option.{option_or}
use Rattle.std.specs.Prelude.{Bool, List, None, Option, Some, [], if◌then◌else◌, is_none, length, map, nat_le, nat_lt, neg_ℤ, not, option_and_then, option_map, pos, position, zip, ℕ, ℤ, ◌&&◌, ◌+◌, ◌==◌, ◌∷◌}
use Rattle.std.specs.Str.{byte}
use Rattle.tt_value.specs.declared.value.Column.{Column}
use Rattle.tt_value.specs.declared.value.Kind.{Kind}
use Rattle.tt_value.specs.declared.value.Row.{Row}
use Rattle.tt_value.specs.declared.value.Schema.{Schema}
use Rattle.tt_value.specs.declared.value.Value.{Value}
use Rattle.tt_value.specs.calendar.Reading.{day_of, digits_value}
use Rattle.tt_value.specs.trees.Expressions.{in_range}
use Rattle.tt_value.specs.trees.Predicates.{is_null}
use Rattle.tt_value.specs.trees.Scope.{value_or_null}
use Rattle.tt_value.specs.values.Texts.{is_control}
use Rattle.tt_sql.specs.meaning.Changes.{BadData, Changed, Changes, NullInRow}
use Rattle.tt_plain.specs.meaning.Staged.{records_of}
use Rattle.tt_value.specs.declared.value.Kind.TheVariants as kinds
use Rattle.tt_value.specs.declared.value.Value.TheVariants as value

-- ---- fields

-- an optional minus and digits
abbrev pub digits_of : List ℕ → Option ℕ
digits_of digits = if nat_lt 0 (length digits) && list_all is_ascii_digit digits then Some (digits_value digits) else None

abbrev pub signed_of : List ℕ → Option ℤ
signed_of [] = None
signed_of (byte ∷ bytes) = if byte == 45 then option_map (λ n. neg_ℤ (pos n)) (digits_of bytes) else option_map pos (digits_of (byte ∷ bytes))

abbrev pub is_text_value : List ℕ → Bool
is_text_value bytes = nat_le (length bytes) 65535 && is_none (position is_control bytes)

-- the value of a field that is not empty, in a column of a kind; none where it cannot be read
abbrev pub value_of_kind : Kind → List ℕ → Option Value
value_of_kind kinds.Int bytes = option_and_then in_range (signed_of bytes)
value_of_kind kinds.Date bytes = option_map value.Date (day_of bytes)
value_of_kind kinds.Varchar bytes = if is_text_value bytes then Some (value.Text bytes) else None

-- an empty field is NULL, with quotes or without
abbrev pub field_value : Kind → List ℕ → Option Value
field_value kind [] = Some value.Null
field_value kind (byte ∷ bytes) = value_of_kind kind (byte ∷ bytes)

-- ---- records

-- a field is refused where it cannot be read, or is NULL and may not be
abbrev pub field_fault : ℕ → ℕ → Column → Option Value → Option Changed
field_fault number place column None = Some (BadData number place)
field_fault number place column (Some v) = if not column.nullable && is_null v then Some (NullInRow place) else None

-- the first field that is refused; columns count from 1
abbrev pub first_field_fault : ℕ → ℕ → List Column → List (List ℕ) → Option Changed
first_field_fault number place (column ∷ columns) (field ∷ fields) =
    option_or (field_fault number place column (field_value column.kind field)) (first_field_fault number (place + 1) columns fields)
first_field_fault number place _ _ = None

-- another number of fields than of columns is refused at column 0
abbrev pub record_fault : List Column → ℕ → List (List ℕ) → Option Changed
record_fault columns number fields =
    if length fields == length columns then first_field_fault number 1 columns fields else Some (BadData number 0)

-- the first record that is refused decides; records count from 1
abbrev pub first_fault : List Column → ℕ → List (List (List ℕ)) → Option Changed
first_fault columns number [] = None
first_fault columns number (fields ∷ records) = option_or (record_fault columns number fields) (first_fault columns (number + 1) records)

abbrev pub row_of_record : List Column → List (List ℕ) → Row
row_of_record columns fields =
    record { values = map (λ cell. value_or_null (field_value cell.0.kind cell.1)) (zip columns fields) }

abbrev pub added_unless : List Row → Option Changed → Changed
added_unless rows None = Changes [] rows (length rows)
added_unless rows (Some fault) = fault

-- what a COPY of the file does
unfoldable pub copied : Schema → List ℕ → Changed
copied schema bytes =
    added_unless (map (row_of_record schema.columns) (records_of bytes)) (first_fault schema.columns 1 (records_of bytes))
