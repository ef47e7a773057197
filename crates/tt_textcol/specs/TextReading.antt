-- Reading a column of texts, with the place of the first fault.
use Rattle.std.specs.Prelude.{◌≡◌, ℕ, zero, suc, ◌+◌, ◌-◌, Bool, ◌&&◌, ◌==◌, nat_lt, if◌then◌else◌, List, length, take, drop, Option, is_none, Result, Ok, Err}
use Rattle.std.specs.Borrow.{Bor}
use Rattle.std.specs.Global.{Vec}
use Rattle.std.specs.List.{position}
use Rattle.std.specs.Int.{w16}
use Rattle.std.specs.Str.{is_utf8}
use Rattle.tt_value.specs.values.Texts.{is_control}
use Rattle.tt_value.specs.columns.Reading.{◌>>=◌, checked, at_byte, at_encoding, is_longer, in_column, number_at, values_at, run_values_at, dictionary_values_at, ended, flags_at, present_count, spread}
use Rattle.tt_value.specs.declared.column.BadColumn.{BadColumn}
use Rattle.tt_textcol.specs.declared.encoding.Encoding.{Encoding}
use Rattle.tt_textcol.specs.declared.encoding.Encoding.TheVariants.{Plain, Run, Dictionary}
use Rattle.tt_textcol.specs.declared.column.TextColumn.{TextColumn}
use Rattle.tt_textcol.specs.declared.column.DecodeError.{DecodeError}
use Rattle.tt_textcol.specs.declared.column.DecodeError.TheVariants as errors
use Rattle.tt_textcol.specs.declared.parts.PartError.{PartError}
use Rattle.tt_textcol.specs.declared.parts.PartError.TheVariants as part_errors
use Rattle.tt_textcol.specs.TextBody.{text_cmp, code, encoding_of}

-- What a function returned of a part, seen by view, is what reading gives, unless memory ran out.
abbrev pub FailsPart : {Y : Type 0} → PartError → Result Y ℕ → Type 0
FailsPart part_errors.Memory read = Unit {0}
FailsPart (part_errors.At place) read = read ≡ Err place

abbrev pub GivesPart : {X Y : Type 0} → (X → Y) → Result X PartError → Result Y ℕ → Type 0
GivesPart view (Ok x) read = read ≡ Ok (view x)
GivesPart view (Err e) read = FailsPart e read

-- the same of one thing or of a list, and of what stands behind it
abbrev pub GivesOne : {V : Type 0} → Result (V × Bor (List ℕ)) PartError → Result (V × List ℕ) ℕ → Type 0
GivesOne result read = GivesPart (λ x. (x.0, x.1.now)) result read

abbrev pub GivesList : {V : Type 0} → Result (Vec V × Bor (List ℕ)) PartError → Result (List V × List ℕ) ℕ → Type 0
GivesList result read = GivesPart (λ x. (x.0.items, x.1.now)) result read

-- the same of a list behind which nothing stands
abbrev pub GivesWhole : {V : Type 0} → Result (Vec V) PartError → Result (List V) ℕ → Type 0
GivesWhole result read = GivesPart (λ v. v.items) result read

-- The same of a column, whose fault says also whether it is at the byte of the encoding.
abbrev pub Fails : {Y : Type 0} → DecodeError → Result Y BadColumn → Type 0
Fails errors.Memory read = Unit {0}
Fails (errors.BadColumn bad) read = read ≡ Err bad

abbrev pub Gives : {X Y : Type 0} → (X → Y) → Result X DecodeError → Result Y BadColumn → Type 0
Gives view (Ok x) read = read ≡ Ok (view x)
Gives view (Err e) read = Fails e read

-- the fault of a part, as that of its column
abbrev pub decode_error : PartError → DecodeError
decode_error part_errors.Memory = errors.Memory
decode_error (part_errors.At place) = errors.BadColumn (at_byte place)

-- UTF-8 without control characters; how long a text may be is as much as its two bytes of length can say
abbrev pub is_text : List ℕ → Bool
is_text bytes = is_utf8 bytes && is_none (position is_control bytes)

-- a text with its length: one part
unfoldable pub text_at : ℕ → List ℕ → Result (List ℕ × List ℕ) ℕ
text_at end bytes = do
  n ← number_at w16 end bytes
  if nat_lt (length n.1) n.0 then Err end else checked (is_text (take n.0 n.1)) (end - length bytes) (take n.0 n.1, drop n.0 n.1)

abbrev pub body_at : Encoding → ℕ → ℕ → List ℕ → Result (List (List ℕ) × List ℕ) ℕ
body_at Plain end count bytes = values_at text_at text_cmp end count bytes
body_at Run end count bytes = run_values_at text_at text_cmp end count bytes
body_at Dictionary end count bytes = dictionary_values_at text_at text_cmp end count bytes

abbrev pub encoding_at : ℕ → Result Encoding BadColumn
encoding_at zero = Ok Plain
encoding_at (suc (suc zero)) = Ok Run
encoding_at (suc (suc (suc zero))) = Ok Dictionary
encoding_at _ = Err at_encoding

-- the values of a body that ends behind its last part
unfoldable pub whole_body : Encoding → ℕ → ℕ → List ℕ → Result (List (List ℕ)) ℕ
whole_body e end count bytes = do
  read ← body_at e end count bytes
  ended end read

-- the values of the body, where its form is the shortest
unfoldable pub values_in : Encoding → ℕ → ℕ → List ℕ → Result (List (List ℕ)) BadColumn
values_in e end count bytes = do
  vs ← in_column (whole_body e end count bytes)
  checked (code (encoding_of vs) == code e) is_longer vs

-- a column of these bytes
abbrev pub column_with : ℕ → Bool → List ℕ → List ℕ → TextColumn
column_with encoding nulls bitmap body = record { encoding = encoding; nulls = nulls; bitmap = bitmap; body = body }

-- the encoding, then the bitmap, then the body
unfoldable pub rows_of : ℕ → TextColumn → Result (List (Option (List ℕ))) BadColumn
rows_of rows column = do
  e ← encoding_at column.encoding
  flags ← in_column (flags_at rows column.nulls column.bitmap)
  vs ← values_in e (length column.bitmap + length column.body) (present_count flags) column.body
  Ok (spread flags vs)

-- the rows of a column of these bytes
abbrev pub rows_in : ℕ → ℕ → Bool → List ℕ → List ℕ → Result (List (Option (List ℕ))) BadColumn
rows_in rows encoding nulls bitmap body = rows_of rows (column_with encoding nulls bitmap body)
