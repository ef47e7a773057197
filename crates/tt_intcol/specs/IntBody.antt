-- Columns of numbers: the bytes of a value, the frame, and which of the four bodies a column has.
use Rattle.std.specs.Prelude.{◌≡◌, ℕ, ◌*◌, Bool, ◌==◌, max, ℤ, pos, negsuc, ◌-ℤ◌, ◌≤ℤ◌, nat_lt, if◌then◌else◌, List, [], ◌∷◌, ◌++◌, length, map, take, fold, Option}
use Rattle.std.specs.List.{flat_map}
use Rattle.std.specs.Int.{w64, to_le_bytes, cast_unsigned, int_min}
use Rattle.std.specs.Int.RustNames.{unsigned_abs, FitsSigned}
use Rattle.std.specs.Ordering.{int_cmp}
use Rattle.tt_value.specs.declared.value.Kind.{Kind}
use Rattle.tt_value.specs.declared.value.Kind.TheVariants.{Date}
use Rattle.tt_value.specs.columns.Packing.{packed, bytes_for, width_of}
use Rattle.tt_value.specs.columns.Body.{plain_body, run_body, run_bytes, dictionary_body, present, has_null, bitmap_of}
use Rattle.tt_intcol.specs.declared.encoding.Encoding.{Encoding}
use Rattle.tt_intcol.specs.declared.encoding.Encoding.TheVariants.{Plain, Frame, Run, Dictionary}
use Rattle.tt_intcol.specs.declared.column.IntColumn.{IntColumn}

-- how many bytes a value has
abbrev pub value_size : Kind → ℕ
value_size Date = 4
value_size _ = 8

-- the low bytes of its two's complement, the lowest first
abbrev pub value_bytes : Kind → ℤ → List ℕ
value_bytes kind v = take (value_size kind) (to_le_bytes w64 (cast_unsigned w64 v))

abbrev pub values_bytes : Kind → List ℤ → List ℕ
values_bytes kind vs = flat_map (value_bytes kind) vs

-- runs, each a value and a length
abbrev pub runs_bytes : Kind → List (ℤ × ℕ) → List ℕ
runs_bytes kind runs = flat_map (run_bytes (value_bytes kind) int_cmp) runs

-- the first and the last day of the years 1 to 9999
abbrev pub first_day : ℤ
first_day = negsuc 719161

abbrev pub last_day : ℤ
last_day = pos 2932896

abbrev pub IsDay : ℤ → Type 0
IsDay v = (first_day ≤ℤ v) × (v ≤ℤ last_day)

-- what a column of the kind may hold
abbrev pub IsValue : Kind → ℤ → Type 0
IsValue Date v = IsDay v
IsValue _ v = FitsSigned w64 v

-- the least of some values
abbrev pub least_of : List ℤ → ℤ
least_of [] = pos 0
least_of (v ∷ vs) = fold int_min v vs

-- how far a value stands above another
abbrev pub height : ℤ → ℤ → ℕ
height low v = unsigned_abs (v -ℤ low)

abbrev pub greatest_of : List ℕ → ℕ
greatest_of ns = fold max 0 ns

-- how many bytes the differences to the least value take
abbrev pub heights_size : List ℤ → ℕ
heights_size vs = bytes_for (length vs * width_of (greatest_of (map (height (least_of vs)) vs)))

-- the least value, a width, and the differences to the least value in so many bits each
abbrev pub frame_body : Kind → List ℤ → List ℕ
frame_body kind vs =
    let differences = map (height (least_of vs)) vs in
    let width = width_of (greatest_of differences) in
    value_bytes kind (least_of vs) ++ (width ∷ packed width differences)

abbrev pub body : Kind → List ℤ → Encoding → List ℕ
body kind vs Plain = plain_body (value_bytes kind) int_cmp vs
body kind vs Frame = frame_body kind vs
body kind vs Run = run_body (value_bytes kind) int_cmp vs
body kind vs Dictionary = dictionary_body (value_bytes kind) int_cmp vs

abbrev pub code : Encoding → ℕ
code Plain = 0
code Frame = 1
code Run = 2
code Dictionary = 3

-- the first of the shortest
abbrev pub shortest : (Encoding → ℕ) → Encoding → List Encoding → Encoding
shortest size best [] = best
shortest size best (e ∷ es) = if nat_lt (size e) (size best) then shortest size e es else shortest size best es

-- what may be taken beside the plain body, by code; there is no frame of no values
abbrev pub choices : List ℤ → List Encoding
choices [] = Run ∷ Dictionary ∷ []
choices (v ∷ vs) = Frame ∷ Run ∷ Dictionary ∷ []

-- the encoding with the shortest body, of equal ones that of the least code
unfoldable pub encoding_of : Kind → List ℤ → Encoding
encoding_of kind vs = shortest (λ e. length (body kind vs e)) Plain (choices vs)

-- whether it is this one
abbrev pub is_encoding_of : Kind → List ℤ → Encoding → Bool
is_encoding_of kind vs e = code (encoding_of kind vs) == code e

-- whether the dictionary's body is shorter than so many bytes
abbrev pub has_shorter_dictionary : Kind → List ℤ → ℕ → Bool
has_shorter_dictionary kind vs bytes = nat_lt (length (body kind vs Dictionary)) bytes

-- of the forms but for the dictionary this is the one to take, its body having so many bytes
abbrev pub IsBestBesideDictionary : Kind → List ℤ → ℕ → Encoding → Type 0
IsBestBesideDictionary kind vs bytes e = (if has_shorter_dictionary kind vs bytes then Dictionary else e) ≡ encoding_of kind vs

-- the column of these rows
unfoldable pub column_of : Kind → List (Option ℤ) → IntColumn
column_of kind rows =
    let vs = present rows in
    let e = encoding_of kind vs in
    record { encoding = code e; nulls = has_null rows; bitmap = bitmap_of rows; body = body kind vs e }
