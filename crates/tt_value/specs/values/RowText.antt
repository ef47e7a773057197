-- How a row is written in a reply.
use Rattle.std.specs.Prelude.{◌≡◌, ℕ, ◌==◌, if◌then◌else◌, List, [], ◌∷◌, ◌++◌, map, codes, All, ⊤}
use Rattle.std.specs.List.{flat_map, join_with_byte}
use Rattle.std.specs.Fmt.{signed_decimal}
use Rattle.tt_value.specs.declared.value.Value.{Value}
use Rattle.tt_value.specs.declared.value.Value.TheVariants.{Null, Int, Date, Text}
use Rattle.tt_value.specs.declared.value.Row.{Row}
use Rattle.tt_value.specs.calendar.Calendar.{IsDay, day_text}

-- values that can be written: a date is a day of the years 1 to 9999
abbrev pub IsPrintableValue : Value → Type 0
IsPrintableValue Null = ⊤
IsPrintableValue (Int n) = ⊤
IsPrintableValue (Date day) = IsDay day
IsPrintableValue (Text bytes) = ⊤

abbrev pub IsPrintable : Row → Type 0
IsPrintable row = All IsPrintableValue row.values

-- a quote, which is byte 39, is written twice
abbrev pub quotes_doubled : List ℕ → List ℕ
quotes_doubled bytes = flat_map (λ byte. if byte == 39 then 39 ∷ 39 ∷ [] else byte ∷ []) bytes

-- a number in decimal, a date as `YYYY-MM-DD`, a text in quotes
abbrev pub value_text : Value → List ℕ
value_text Null = codes "NULL"
value_text (Int n) = signed_decimal n
value_text (Date day) = day_text day
value_text (Text bytes) = 39 ∷ quotes_doubled bytes ++ 39 ∷ []

-- the values' texts with a comma, which is byte 44, between any two
abbrev pub row_text : Row → List ℕ
row_text row = join_with_byte 44 (map value_text row.values)

-- what was there stands, with some bytes or none behind it
abbrev pub Extends : List ℕ → List ℕ → Type 0
Extends old new = (more : List ℕ) × (new ≡ old ++ more)
