-- Reading an image part by part, with the place of the first fault. `end` is the place where the bytes end, so a part
-- begins at `end - length bytes`. Where bytes are missing the fault is at the end, and where a part breaks a rule at its first byte.
use Rattle.std.specs.Prelude.{ℕ, zero, suc, ◌+◌, ◌-◌, ℤ, Bool, not, ◌&&◌, ◌==◌, nat_lt, nat_le, if◌then◌else◌, List, length, map, take, drop, Option, Some, None, Result, Ok, Err}
use Rattle.std.specs.declared.cmp.Ordering.{Ordering}
use Rattle.std.specs.declared.cmp.Ordering.TheVariants.{Equal}
use Rattle.std.specs.Int.{w8, w16, w32, w64}
use Rattle.std.specs.Str.{bytes_eq}
use Rattle.tt_value.specs.declared.value.Kind.{Kind}
use Rattle.tt_value.specs.declared.value.Kind.TheVariants as kinds
use Rattle.tt_value.specs.declared.value.Value.{Value}
use Rattle.tt_value.specs.declared.value.Value.TheVariants.{Null, Int, Date, Text}
use Rattle.tt_value.specs.declared.column.BadColumn.{BadColumn}
use Rattle.tt_value.specs.declared.column.FaultAt.{FaultAt}
use Rattle.tt_value.specs.declared.column.FaultAt.TheVariants.{Byte, Encoding, Longer}
use Rattle.tt_value.specs.columns.Packing.{bytes_for}
use Rattle.tt_value.specs.columns.Reading.{◌>>=◌, checked, number_at, values_at, ended}
use Rattle.tt_intcol.specs.IntReading as numbers
use Rattle.tt_textcol.specs.TextReading as texts
use Rattle.tt_partition.specs.declared.head.Head.{Head}
use Rattle.tt_partition.specs.Table.{Table, table_of}
use Rattle.tt_partition.specs.Image.{magic}

-- ---- the head of an image

-- the four bytes `TTP1` together
unfoldable pub magic_at : ℕ → List ℕ → Result (List ℕ) ℕ
magic_at end bytes = if nat_lt (length bytes) 4 then Err end else checked (bytes_eq (take 4 bytes) magic) (end - length bytes) (drop 4 bytes)

-- a number from 1 to most
abbrev pub is_between : ℕ → ℕ → Bool
is_between most n = nat_lt 0 n && nat_le n most

unfoldable pub row_count_at : ℕ → List ℕ → Result (ℕ × List ℕ) ℕ
row_count_at end bytes = do
  n ← number_at w32 end bytes
  checked (is_between 65536 n.0) (end - length bytes) n

unfoldable pub column_count_at : ℕ → List ℕ → Result (ℕ × List ℕ) ℕ
column_count_at end bytes = do
  n ← number_at w16 end bytes
  checked (is_between 32 n.0) (end - length bytes) n

-- ---- the head of a column

-- the kind of a code; none of another number
abbrev pub kind_of : ℕ → Option Kind
kind_of (suc zero) = Some kinds.Int
kind_of (suc (suc zero)) = Some kinds.Date
kind_of (suc (suc (suc zero))) = Some kinds.Varchar
kind_of _ = None

abbrev pub found : {A : Type 0} → ℕ → Option A → Result A ℕ
found place None = Err place
found place (Some x) = Ok x

unfoldable pub kind_at : ℕ → List ℕ → Result (Kind × List ℕ) ℕ
kind_at end bytes = do
  n ← number_at w8 end bytes
  kind ← found (end - length bytes) (kind_of n.0)
  Ok (kind, n.1)

-- four forms, of which texts have no frame
abbrev pub has_encoding : Kind → ℕ → Bool
has_encoding kinds.Int code = nat_le code 3
has_encoding kinds.Date code = nat_le code 3
has_encoding kinds.Varchar code = nat_le code 3 && not (code == 1)

unfoldable pub encoding_at : Kind → ℕ → List ℕ → Result (ℕ × List ℕ) ℕ
encoding_at kind end bytes = do
  n ← number_at w8 end bytes
  checked (has_encoding kind n.0) (end - length bytes) n

unfoldable pub nulls_at : ℕ → List ℕ → Result (Bool × List ℕ) ℕ
nulls_at end bytes = do
  n ← number_at w8 end bytes
  checked (nat_le n.0 1) (end - length bytes) (n.0 == 1, n.1)

unfoldable pub head_at : ℕ → List ℕ → Result (Head × List ℕ) ℕ
head_at end bytes = do
  kind ← kind_at end bytes
  encoding ← encoding_at kind.0 end kind.1
  nulls ← nulls_at end encoding.1
  size ← number_at w64 end nulls.1
  Ok (record { kind = kind.0; encoding = encoding.0; nulls = nulls.0; size = size.0 }, size.1)

-- ---- columns

-- how many bytes the bitmap has: a bit for each row, and none without a NULL
abbrev pub bitmap_size : ℕ → Bool → ℕ
bitmap_size rows nulls = if nulls then bytes_for rows else 0

-- what stands behind a head: the bitmap, the body, and what stands behind both, as far as there are bytes
abbrev pub bitmap_in : ℕ → Head → List ℕ → List ℕ
bitmap_in rows head bytes = take (bitmap_size rows head.nulls) bytes

abbrev pub body_in : ℕ → Head → List ℕ → List ℕ
body_in rows head bytes = take head.size (drop (bitmap_size rows head.nulls) bytes)

abbrev pub behind : ℕ → Head → List ℕ → List ℕ
behind rows head bytes = drop head.size (drop (bitmap_size rows head.nulls) bytes)

abbrev pub number_value : Kind → Option ℤ → Value
number_value kind None = Null
number_value kinds.Date (Some n) = Date n
number_value kinds.Int (Some n) = Int n
number_value kinds.Varchar (Some n) = Int n

abbrev pub text_value : Option (List ℕ) → Value
text_value None = Null
text_value (Some text) = Text text

abbrev pub mapped : {A B F : Type 0} → (A → B) → Result A F → Result B F
mapped f (Ok x) = Ok (f x)
mapped f (Err fault) = Err fault

-- so many values of the kind, in a column of these bytes
abbrev pub values_in : Kind → ℕ → ℕ → Bool → List ℕ → List ℕ → Result (List Value) BadColumn
values_in kinds.Int rows encoding nulls bitmap body = mapped (map (number_value kinds.Int)) (numbers.rows_of kinds.Int rows (numbers.column_with encoding nulls bitmap body))
values_in kinds.Date rows encoding nulls bitmap body = mapped (map (number_value kinds.Date)) (numbers.rows_of kinds.Date rows (numbers.column_with encoding nulls bitmap body))
values_in kinds.Varchar rows encoding nulls bitmap body = mapped (map text_value) (texts.rows_of rows (texts.column_with encoding nulls bitmap body))

-- The place of the fault of a column, from the places of its encoding and its bitmap and of the end. A body that is
-- shorter than its head says, but whole up to there, has its fault where it ends: that comes before the question whether
-- the encoding is the shortest.
abbrev pub fault_place : ℕ → ℕ → ℕ → Bool → ℕ → FaultAt → ℕ
fault_place encoding bitmap end short place Byte = bitmap + place
fault_place encoding bitmap end short place Encoding = encoding
fault_place encoding bitmap end short place Longer = if short then end else encoding

abbrev pub placed : {A : Type 0} → ℕ → ℕ → ℕ → Bool → Result A BadColumn → Result A ℕ
placed encoding bitmap end short (Err bad) = Err (fault_place encoding bitmap end short bad.place bad.at)
placed encoding bitmap end short (Ok x) = if short then Err end else Ok x

-- whether the bytes end before a body does
abbrev pub is_short : ℕ → Head → List ℕ → Bool
is_short rows head bytes = nat_lt (length (body_in rows head bytes)) head.size

-- the values of a column whose encoding stands at a place, from what stands behind its head
unfoldable pub column_values_at : ℕ → ℕ → ℕ → Head → List ℕ → Result (List Value) ℕ
column_values_at rows encoding end head bytes =
    placed encoding (end - length bytes) end (is_short rows head bytes) (values_in head.kind rows head.encoding head.nulls (bitmap_in rows head bytes) (body_in rows head bytes))

-- a column: its kind, and so many values; the byte of its encoding stands behind that of its kind
unfoldable pub column_at : ℕ → ℕ → List ℕ → Result ((Kind × List Value) × List ℕ) ℕ
column_at rows end bytes = do
  head ← head_at end bytes
  values ← column_values_at rows (end - length (drop 1 bytes)) end head.0 head.1
  Ok ((head.0.kind, values), behind rows head.0 head.1)

-- columns stand in no order
abbrev pub no_order : Kind × List Value → Kind × List Value → Ordering
no_order a b = Equal

-- ---- images

-- the number of rows of an image and its columns, or the place of the first fault
unfoldable pub columns_in : List ℕ → Result (ℕ × List (Kind × List Value)) ℕ
columns_in bytes = do
  head ← magic_at (length bytes) bytes
  rows ← row_count_at (length bytes) head
  count ← column_count_at (length bytes) rows.1
  read ← values_at (column_at rows.0) no_order (length bytes) count.0 count.1
  columns ← ended (length bytes) read
  Ok (rows.0, columns)

-- the table of an image, or the place of the first fault
unfoldable pub table_at : List ℕ → Result Table ℕ
table_at bytes = do
  read ← columns_in bytes
  Ok (table_of read.0 read.1)
