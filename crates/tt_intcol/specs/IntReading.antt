-- Reading a column of numbers, with the place of the first fault.
use Rattle.std.specs.Prelude.{◌≡◌, ℕ, zero, suc, ◌+◌, ◌-◌, ◌*◌, ℤ, pos, ◌+ℤ◌, Bool, false, not, ◌&&◌, ◌==◌, nat_lt, if◌then◌else◌, List, length, map, Option, Result, Ok, Err}
use Rattle.std.specs.Borrow.{Bor}
use Rattle.std.specs.Global.{Vec}
use Rattle.std.specs.List.{list_any, list_all, AllByRecursion}
use Rattle.std.specs.Int.{w32, w64, w8, cast_signed}
use Rattle.std.specs.Int.RustNames.{int_le}
use Rattle.std.specs.Ordering.{int_cmp}
use Rattle.tt_value.specs.declared.value.Kind.{Kind}
use Rattle.tt_value.specs.declared.value.Kind.TheVariants.{Date}
use Rattle.tt_value.specs.columns.Packing.{bytes_for, width_of}
use Rattle.tt_value.specs.columns.Body.{present}
use Rattle.tt_value.specs.columns.Reading.{◌>>=◌, checked, at_byte, at_encoding, is_longer, in_column, number_at, packed_at, values_at, run_values_at, dictionary_values_at, ended, flags_at, present_count, spread}
use Rattle.tt_value.specs.declared.column.BadColumn.{BadColumn}
use Rattle.tt_intcol.specs.declared.encoding.Encoding.{Encoding}
use Rattle.tt_intcol.specs.declared.encoding.Encoding.TheVariants.{Plain, Frame, Run, Dictionary}
use Rattle.tt_intcol.specs.declared.column.IntColumn.{IntColumn}
use Rattle.tt_intcol.specs.declared.column.DecodeError.{DecodeError}
use Rattle.tt_intcol.specs.declared.column.DecodeError.TheVariants as errors
use Rattle.tt_intcol.specs.declared.parts.PartError.{PartError}
use Rattle.tt_intcol.specs.declared.parts.PartError.TheVariants as part_errors
use Rattle.tt_intcol.specs.IntBody.{first_day, last_day, IsValue, greatest_of, code, encoding_of, column_of}

-- What a function returned of a part, seen by view, is what reading gives, unless memory ran out.
abbrev pub FailsPart : {Y : Type 0} → PartError → Result Y ℕ → Type 0
FailsPart part_errors.Memory read = Unit {0}
FailsPart (part_errors.At place) read = read ≡ Err place

abbrev pub GivesPart : {X Y : Type 0} → (X → Y) → Result X PartError → Result Y ℕ → Type 0
GivesPart view (Ok x) read = read ≡ Ok (view x)
GivesPart view (Err e) read = FailsPart e read

-- the same of one thing or of a list, and of what stands behind it
abbrev pub GivesOne : {V : Type 0} → Result (V × Bor (List ℕ)) PartError → Result (V × List ℕ) ℕ → Type 0
GivesOne result read = GivesPart (λ x. (x.0, x.1.now)) result read

abbrev pub GivesList : {V : Type 0} → Result (Vec V × Bor (List ℕ)) PartError → Result (List V × List ℕ) ℕ → Type 0
GivesList result read = GivesPart (λ x. (x.0.items, x.1.now)) result read

-- the same of a list behind which nothing stands
abbrev pub GivesWhole : {V : Type 0} → Result (Vec V) PartError → Result (List V) ℕ → Type 0
GivesWhole result read = GivesPart (λ v. v.items) result read

-- The same of a column, whose fault says also whether it is at the byte of the encoding.
abbrev pub Fails : {Y : Type 0} → DecodeError → Result Y BadColumn → Type 0
Fails errors.Memory read = Unit {0}
Fails (errors.BadColumn bad) read = read ≡ Err bad

abbrev pub Gives : {X Y : Type 0} → (X → Y) → Result X DecodeError → Result Y BadColumn → Type 0
Gives view (Ok x) read = read ≡ Ok (view x)
Gives view (Err e) read = Fails e read

-- the fault of a part, as that of its column
abbrev pub decode_error : PartError → DecodeError
decode_error part_errors.Memory = errors.Memory
decode_error (part_errors.At place) = errors.BadColumn (at_byte place)

abbrev pub is_day : ℤ → Bool
is_day v = int_le first_day v && int_le v last_day

unfoldable pub date_at : ℕ → List ℕ → Result (ℤ × List ℕ) ℕ
date_at end bytes = do
  n ← number_at w32 end bytes
  checked (is_day (cast_signed w32 n.0)) (end - length bytes) (cast_signed w32 n.0, n.1)

unfoldable pub int_at : ℕ → List ℕ → Result (ℤ × List ℕ) ℕ
int_at end bytes = do
  n ← number_at w64 end bytes
  Ok (cast_signed w64 n.0, n.1)

abbrev pub value_at : Kind → ℕ → List ℕ → Result (ℤ × List ℕ) ℕ
value_at Date end bytes = date_at end bytes
value_at _ end bytes = int_at end bytes

-- the greatest value of the kind
abbrev pub top_of : Kind → ℤ
top_of Date = last_day
top_of _ = pos 9223372036854775807

-- a value so far above another is not past the greatest of the kind
abbrev pub is_within : Kind → ℤ → ℕ → Bool
is_within kind low n = int_le (low +ℤ pos n) (top_of kind)

-- The differences of a frame: the least is 0, the width is that of the greatest, and no value is past the greatest of the kind.
abbrev pub is_frame : Kind → ℤ → ℕ → List ℕ → Bool
is_frame kind low width ns = (list_any (λ n. n == 0) ns && width_of (greatest_of ns) == width) && list_all (is_within kind low) ns

unfoldable pub frame_at : Kind → ℕ → ℕ → List ℕ → Result (List ℤ × List ℕ) ℕ
frame_at kind end count bytes = do
  low ← value_at kind end bytes
  width ← number_at w8 end low.1
  ns ← packed_at end width.0 count width.1
  checked (is_frame kind low.0 width.0 ns.0) (end - length width.1) (map (λ n. low.0 +ℤ pos n) ns.0, ns.1)

-- the fault of packed numbers that are wider than any difference: at the end where there are too few bytes, and else at their first byte
abbrev pub packed_fault : ℕ → ℕ → ℕ → List ℕ → ℕ
packed_fault end width count bytes = if nat_lt (length bytes) (bytes_for (count * width)) then end else end - length bytes

-- the values of a body, and what stands behind its last part
abbrev pub body_at : Kind → Encoding → ℕ → ℕ → List ℕ → Result (List ℤ × List ℕ) ℕ
body_at kind Plain end count bytes = values_at (value_at kind) int_cmp end count bytes
body_at kind Frame end count bytes = frame_at kind end count bytes
body_at kind Run end count bytes = run_values_at (value_at kind) int_cmp end count bytes
body_at kind Dictionary end count bytes = dictionary_values_at (value_at kind) int_cmp end count bytes

abbrev pub encoding_at : ℕ → Result Encoding BadColumn
encoding_at zero = Ok Plain
encoding_at (suc zero) = Ok Frame
encoding_at (suc (suc zero)) = Ok Run
encoding_at (suc (suc (suc zero))) = Ok Dictionary
encoding_at _ = Err at_encoding

-- there is no frame of no values
abbrev pub is_empty_frame : Encoding → ℕ → Bool
is_empty_frame Plain count = false
is_empty_frame Frame count = count == 0
is_empty_frame Run count = false
is_empty_frame Dictionary count = false

-- the values of a body that ends behind its last part
unfoldable pub whole_body : Kind → Encoding → ℕ → ℕ → List ℕ → Result (List ℤ) ℕ
whole_body kind e end count bytes = do
  read ← body_at kind e end count bytes
  ended end read

-- the values of the body, where its form is one that so many values may have, and the shortest
unfoldable pub values_in : Kind → Encoding → ℕ → ℕ → List ℕ → Result (List ℤ) BadColumn
values_in kind e end count bytes = do
  form ← checked (not (is_empty_frame e count)) at_encoding e
  vs ← in_column (whole_body kind form end count bytes)
  checked (code (encoding_of kind vs) == code form) is_longer vs

-- a column of these bytes
abbrev pub column_with : ℕ → Bool → List ℕ → List ℕ → IntColumn
column_with encoding nulls bitmap body = record { encoding = encoding; nulls = nulls; bitmap = bitmap; body = body }

-- the encoding, then the bitmap, then the body
unfoldable pub rows_of : Kind → ℕ → IntColumn → Result (List (Option ℤ)) BadColumn
rows_of kind rows column = do
  e ← encoding_at column.encoding
  flags ← in_column (flags_at rows column.nulls column.bitmap)
  vs ← values_in kind e (length column.bitmap + length column.body) (present_count flags) column.body
  Ok (spread flags vs)

-- the rows of a column of these bytes
abbrev pub rows_in : Kind → ℕ → ℕ → Bool → List ℕ → List ℕ → Result (List (Option ℤ)) BadColumn
rows_in kind rows encoding nulls bitmap body = rows_of kind rows (column_with encoding nulls bitmap body)

-- this holds of the rows whose column it is: so many rows, of the kind
abbrev pub IfColumnOf : Kind → ℕ → IntColumn → (List (Option ℤ) → Type 0) → Type 0
IfColumnOf kind rows column P = (vs : List (Option ℤ)) → AllByRecursion (IsValue kind) (present vs) → length vs ≡ rows → column ≡ column_of kind vs → P vs
