-- Columns of texts: the bytes of a text, and which of the three bodies a column has.
use Rattle.std.specs.Prelude.{◌≡◌, ℕ, Bool, ◌==◌, nat_lt, if◌then◌else◌, List, [], ◌∷◌, ◌++◌, length, Option}
use Rattle.std.specs.Global.{Vec}
use Rattle.std.specs.List.{flat_map, AllByRecursion}
use Rattle.std.specs.Int.{w16, to_le_bytes}
use Rattle.std.specs.Str.{IsUtf8}
use Rattle.std.specs.declared.cmp.Ordering.{Ordering}
use Rattle.std.specs.Ordering.{nat_cmp}
use Rattle.std.specs.Cmp.Lexicographic.{slice_cmp}
use Rattle.tt_value.specs.values.Texts.{IsText}
use Rattle.tt_value.specs.columns.Body.{plain_body, run_body, run_bytes, distinct, dictionary_body, present, has_null, bitmap_of}
use Rattle.tt_value.specs.columns.Steps.{SomeWhere}
use Rattle.tt_textcol.specs.declared.encoding.Encoding.{Encoding}
use Rattle.tt_textcol.specs.declared.encoding.Encoding.TheVariants.{Plain, Run, Dictionary}
use Rattle.tt_textcol.specs.declared.column.TextColumn.{TextColumn}

-- how many bytes it has, in two bytes, and these
abbrev pub text_bytes : List ℕ → List ℕ
text_bytes text = to_le_bytes w16 (length text) ++ text

-- texts are ordered by their bytes
abbrev pub text_cmp : List ℕ → List ℕ → Ordering
text_cmp = slice_cmp nat_cmp

-- runs, each a text and a length
abbrev pub runs_bytes : List (List ℕ × ℕ) → List ℕ
runs_bytes runs = flat_map (run_bytes text_bytes text_cmp) runs

-- how many distinct texts there are, and how many bytes they take with their lengths
abbrev pub distinct_count : List (List ℕ) → ℕ
distinct_count vs = length (distinct text_cmp vs)

abbrev pub distinct_bytes : List (List ℕ) → ℕ
distinct_bytes vs = length (flat_map text_bytes (distinct text_cmp vs))

-- what a column may hold
abbrev pub IsValue : List ℕ → Type 0
IsValue text = IsUtf8 text × IsText text

abbrev pub body : List (List ℕ) → Encoding → List ℕ
body vs Plain = plain_body text_bytes text_cmp vs
body vs Run = run_body text_bytes text_cmp vs
body vs Dictionary = dictionary_body text_bytes text_cmp vs

-- a frame of numbers has the code 1, and texts have none
abbrev pub code : Encoding → ℕ
code Plain = 0
code Run = 2
code Dictionary = 3

-- the first of the shortest
abbrev pub shortest : (Encoding → ℕ) → Encoding → List Encoding → Encoding
shortest size best [] = best
shortest size best (e ∷ es) = if nat_lt (size e) (size best) then shortest size e es else shortest size best es

-- the encoding with the shortest body, of equal ones that of the least code
unfoldable pub encoding_of : List (List ℕ) → Encoding
encoding_of vs = shortest (λ e. length (body vs e)) Plain (Run ∷ Dictionary ∷ [])

-- whether it is this one
abbrev pub is_encoding_of : List (List ℕ) → Encoding → Bool
is_encoding_of vs e = code (encoding_of vs) == code e

-- whether the dictionary's body is shorter than so many bytes
abbrev pub has_shorter_dictionary : List (List ℕ) → ℕ → Bool
has_shorter_dictionary vs bytes = nat_lt (length (body vs Dictionary)) bytes

-- the distinct texts, exactly where the dictionary's body is shorter than so many bytes
abbrev pub GivesDictionary : List (List ℕ) → ℕ → Option (Vec (List ℕ)) → Type 0
GivesDictionary vs bytes entries = SomeWhere (has_shorter_dictionary vs bytes) (λ v. v.items) (distinct text_cmp vs) entries

-- of the forms but for the dictionary this is the one to take, its body having so many bytes
abbrev pub IsBestBesideDictionary : List (List ℕ) → ℕ → Encoding → Type 0
IsBestBesideDictionary vs bytes e = (if has_shorter_dictionary vs bytes then Dictionary else e) ≡ encoding_of vs

-- where it is a dictionary, these are its texts
abbrev pub HasEntries : Encoding → List (List ℕ) → List (List ℕ) → Type 0
HasEntries e vs entries = e ≡ Dictionary → entries ≡ distinct text_cmp vs

-- the column of these rows
unfoldable pub column_of : List (Option (List ℕ)) → TextColumn
column_of rows =
    let vs = present rows in
    let e = encoding_of vs in
    record { encoding = code e; nulls = has_null rows; bitmap = bitmap_of rows; body = body vs e }

-- the column is that of these rows: so many, of values
abbrev pub IsColumnOf : ℕ → List (Option (List ℕ)) → TextColumn → Type 0
IsColumnOf rows vs column = (column ≡ column_of vs) × (length vs ≡ rows) × AllByRecursion IsValue (present vs)

-- this holds of the rows whose column it is: so many, of values
abbrev pub IfColumnOf : ℕ → TextColumn → (List (Option (List ℕ)) → Type 0) → Type 0
IfColumnOf rows column P = (vs : List (Option (List ℕ))) → AllByRecursion IsValue (present vs) → length vs ≡ rows → column ≡ column_of vs → P vs
