-- The bytes of a table: `TTP1`, the number of rows and of columns, and the columns in order. All numbers are little endian.
use Rattle.std.specs.Prelude.{◌≡◌, ℕ, ℤ, Bool, true, false, List, [], ◌∷◌, ◌++◌, length, map, Option, Some, None}
use Rattle.std.specs.Int.{w16, w32, w64, to_le_bytes}
use Rattle.std.specs.List.{flat_map}
use Rattle.tt_value.specs.declared.value.Kind.{Kind}
use Rattle.tt_value.specs.declared.value.Kind.TheVariants as kinds
use Rattle.tt_value.specs.declared.value.Value.{Value}
use Rattle.tt_value.specs.declared.value.Value.TheVariants.{Null, Int, Date, Text}
use Rattle.tt_intcol.specs.IntBody as numbers
use Rattle.tt_textcol.specs.TextBody as texts
use Rattle.tt_partition.specs.Table.{Table, columns_of, IsPart}

-- the bytes of `TTP1`
abbrev pub magic : List ℕ
magic = 84 ∷ 84 ∷ 80 ∷ 49 ∷ []

abbrev pub kind_code : Kind → ℕ
kind_code kinds.Int = 1
kind_code kinds.Date = 2
kind_code kinds.Varchar = 3

-- the number of a value, the day of a date; none for NULL
abbrev pub number_in : Value → Option ℤ
number_in (Int n) = Some n
number_in (Date day) = Some day
number_in (Text text) = None
number_in Null = None

-- the bytes of a text; none for NULL
abbrev pub text_in : Value → Option (List ℕ)
text_in (Int n) = None
text_in (Date day) = None
text_in (Text text) = Some text
text_in Null = None

abbrev pub null_code : Bool → ℕ
null_code false = 0
null_code true = 1

-- kind, encoding, whether there is a NULL, the body's length, the bitmap and the body
abbrev pub spelled : Kind → ℕ → Bool → List ℕ → List ℕ → List ℕ
spelled kind encoding nulls bitmap body = kind_code kind ∷ encoding ∷ null_code nulls ∷ (to_le_bytes w64 (length body) ++ (bitmap ++ body))

-- the bytes of a column of integers or dates, and of one of texts
abbrev pub number_bytes : Kind → List (Option ℤ) → List ℕ
number_bytes kind ns =
    let column = numbers.column_of kind ns in
    spelled kind column.encoding column.nulls column.bitmap column.body

abbrev pub text_bytes : List (Option (List ℕ)) → List ℕ
text_bytes ts =
    let column = texts.column_of ts in
    spelled kinds.Varchar column.encoding column.nulls column.bitmap column.body

-- the bytes of a column of these values
abbrev pub column_bytes : Kind → List Value → List ℕ
column_bytes kinds.Int vs = number_bytes kinds.Int (map number_in vs)
column_bytes kinds.Date vs = number_bytes kinds.Date (map number_in vs)
column_bytes kinds.Varchar vs = text_bytes (map text_in vs)

abbrev pub columns_bytes : List (Kind × List Value) → List ℕ
columns_bytes columns = flat_map (λ c. column_bytes c.0 c.1) columns

-- the one image of a table
unfoldable pub image_of : Table → List ℕ
image_of table = magic ++ (to_le_bytes w32 (length table.rows) ++ (to_le_bytes w16 (length table.kinds) ++ columns_bytes (columns_of table)))

-- where bytes are the image of a table that a partition may hold, this holds of the table
abbrev pub IfImage : List ℕ → (Table → Type 0) → Type 0
IfImage bytes P = (table : Table) → IsPart table → bytes ≡ image_of table → P table
