-- The bytes of a column are read as its kind and its values.
use Rattle.std.proofs.Common.{◌≡◌, ℕ, suc, ◌*◌, ◌^◌, ◌≤◌, ◌<◌, ℤ, Bool, true, false, cond, ltb, List, [], ◌∷◌, ◌++◌, length, take, drop, map, Option, Ok, refl, sym, ap, ◌∙◌, append_assoc, length-append, arith}
use Rattle.std.specs.Prelude.{nat_lt}
use Rattle.std.specs.List.{AllByRecursion, flat_map}
use Rattle.std.specs.Int.{w8, w64, to_le_bytes}
use Rattle.std.proofs.lemmas.Bool.{le-ltb, ltb-true}
use Rattle.std.proofs.lemmas.List.{take_at, drop_at, length-map}
use Rattle.tt_value.specs.declared.value.Kind.{Kind}
use Rattle.tt_value.specs.declared.value.Kind.TheVariants.{Int, Date, Varchar}
use Rattle.tt_value.specs.declared.value.Value.{Value}
use Rattle.tt_value.specs.declared.value.Value.TheVariants as values
use Rattle.tt_value.specs.columns.Packing.{bytes_for, packed}
use Rattle.tt_value.specs.columns.Body.{present, has_null, null_flags, null_flag, bitmap_of}
use Rattle.tt_value.specs.columns.Reading.{number_at}
use Rattle.tt_value.proofs.columns.Packing.{length-packed}
use Rattle.tt_value.proofs.columns.Again.{long_again}
use Rattle.tt_value.proofs.columns.Indexes.{present_le}
use Rattle.tt_intcol.specs.declared.encoding.Encoding.{Encoding}
use Rattle.tt_intcol.specs.declared.encoding.Encoding.TheVariants as forms
use Rattle.tt_intcol.specs.IntBody as number_bodies
use Rattle.tt_intcol.specs.IntReading as numbers
use Rattle.tt_intcol.proofs.RowsAgain as number_laws
use Rattle.tt_textcol.specs.declared.encoding.Encoding as text_encodings
use Rattle.tt_textcol.specs.declared.encoding.Encoding.TheVariants as text_forms
use Rattle.tt_textcol.specs.TextBody as text_bodies
use Rattle.tt_textcol.specs.TextReading as texts
use Rattle.tt_textcol.proofs.RowsAgain as text_laws
use Rattle.tt_partition.specs.Table.{IsOf}
use Rattle.tt_partition.specs.Image.{kind_code, null_code, number_in, text_in, spelled, column_bytes}
use Rattle.tt_partition.specs.ImageReading.{kind_at, has_encoding, encoding_at, nulls_at, head_at, bitmap_size, number_value, text_value, mapped, values_in, column_values_at, column_at}
use Rattle.tt_partition.proofs.TableLaws.{IsColumn}

-- ---- how long a body is at most

abbrev number_plain : Kind → List ℤ → ℕ
number_plain kind vs = length (number_bodies.body kind vs forms.Plain)

number_shortest : (size : Encoding → ℕ) (best : Encoding) (es : List Encoding) → size (number_bodies.shortest size best es) ≤ size best
number_shortest size best [] = omega arith
number_shortest size best (e ∷ es) = go (ltb (size e) (size best)) refl (number_shortest size e es) (number_shortest size best es)
  where
    go : (b : Bool) → ltb (size e) (size best) ≡ b → size (number_bodies.shortest size e es) ≤ size e → size (number_bodies.shortest size best es) ≤ size best
        → size (cond b (number_bodies.shortest size e es) (number_bodies.shortest size best es)) ≤ size best
    go true t le other = let lt = ltb-true (size e) (size best) t in omega (arith, lt, le)
    go false t le other = other

number_value_size : (kind : Kind) (v : ℤ) → length (number_bodies.value_bytes kind v) ≤ 8
number_value_size Int v = omega arith
number_value_size Date v = omega arith
number_value_size Varchar v = omega arith

number_plain_le : (kind : Kind) (vs : List ℤ) → length (flat_map (number_bodies.value_bytes kind) vs) ≤ 8 * length vs
number_plain_le kind [] = omega arith
number_plain_le kind (v ∷ vs) = let a = length-append (number_bodies.value_bytes kind v) (flat_map (number_bodies.value_bytes kind) vs) in let b = number_value_size kind v in let c = number_plain_le kind vs in omega (arith, a, b, c)

number_body_le : (kind : Kind) (ns : List (Option ℤ)) → length (number_bodies.column_of kind ns).body ≤ 8 * length ns
unfolding number_bodies.column_of number_bodies.encoding_of
number_body_le kind ns =
    let vs : List ℤ = present ns in
    let a = number_shortest (λ e. length (number_bodies.body kind vs e)) forms.Plain (number_bodies.choices vs) in
    let b = number_plain_le kind vs in
    let c = present_le ns in
    omega (arith, a, b, c)

text_shortest : (size : text_encodings.Encoding → ℕ) (best : text_encodings.Encoding) (es : List text_encodings.Encoding) → size (text_bodies.shortest size best es) ≤ size best
text_shortest size best [] = omega arith
text_shortest size best (e ∷ es) = go (ltb (size e) (size best)) refl (text_shortest size e es) (text_shortest size best es)
  where
    go : (b : Bool) → ltb (size e) (size best) ≡ b → size (text_bodies.shortest size e es) ≤ size e → size (text_bodies.shortest size best es) ≤ size best
        → size (cond b (text_bodies.shortest size e es) (text_bodies.shortest size best es)) ≤ size best
    go true t le other = let lt = ltb-true (size e) (size best) t in omega (arith, lt, le)
    go false t le other = other

text_plain_le : (vs : List (List ℕ)) → AllByRecursion text_bodies.IsValue vs → length (flat_map text_bodies.text_bytes vs) ≤ 65537 * length vs
text_plain_le [] all = omega arith
text_plain_le (v ∷ vs) all =
    let a = length-append (text_bodies.text_bytes v) (flat_map text_bodies.text_bytes vs) in
    let b : length (text_bodies.text_bytes v) ≡ suc (suc (length v)) = refl in
    let c = all.0.1.short in
    let d = text_plain_le vs all.1 in
    omega (arith, a, b, c, d)

text_body_le : (ts : List (Option (List ℕ))) → AllByRecursion text_bodies.IsValue (present ts) → length (text_bodies.column_of ts).body ≤ 65537 * length ts
unfolding text_bodies.column_of text_bodies.encoding_of
text_body_le ts all =
    let vs : List (List ℕ) = present ts in
    let a = text_shortest (λ e. length (text_bodies.body vs e)) text_forms.Plain (text_forms.Run ∷ text_forms.Dictionary ∷ []) in
    let b = text_plain_le vs all in
    let c = present_le ts in
    omega (arith, a, b, c)

-- ---- the parts of a column

bitmap_length : {V : Type 0} (rows : List (Option V)) → length (bitmap_of rows) ≡ bitmap_size (length rows) (has_null rows)
bitmap_length rows = go (has_null rows)
  where
    go : (b : Bool) → length (cond b (packed 1 (null_flags rows)) []) ≡ cond b (bytes_for (length rows)) 0
    go true = length-packed 1 (null_flags rows) ∙ ap bytes_for (ap (λ n. n * 1) (length-map rows null_flag) ∙ omega arith)
    go false = refl

abbrev IsNumberColumn : Kind → List (Option ℤ) → Type 0
IsNumberColumn kind ns =
    let c = number_bodies.column_of kind ns in
    (has_encoding kind c.encoding ≡ true) × (length c.bitmap ≡ bitmap_size (length ns) c.nulls) × (length c.body < 2 ^ 64)

int_form : (e : Encoding) → has_encoding Int (number_bodies.code e) ≡ true
int_form forms.Plain = refl
int_form forms.Frame = refl
int_form forms.Run = refl
int_form forms.Dictionary = refl

day_form : (e : Encoding) → has_encoding Date (number_bodies.code e) ≡ true
day_form forms.Plain = refl
day_form forms.Frame = refl
day_form forms.Run = refl
day_form forms.Dictionary = refl

text_form : (e : text_encodings.Encoding) → has_encoding Varchar (text_bodies.code e) ≡ true
text_form text_forms.Plain = refl
text_form text_forms.Run = refl
text_form text_forms.Dictionary = refl

int_column : (ns : List (Option ℤ)) → length ns < 2 ^ 32 → IsNumberColumn Int ns
unfolding number_bodies.column_of
int_column ns few = let le = number_body_le Int ns in (int_form (number_bodies.encoding_of Int (present ns)), bitmap_length ns, omega (arith, le))

day_column : (ns : List (Option ℤ)) → length ns < 2 ^ 32 → IsNumberColumn Date ns
unfolding number_bodies.column_of
day_column ns few = let le = number_body_le Date ns in (day_form (number_bodies.encoding_of Date (present ns)), bitmap_length ns, omega (arith, le))

text_column : (ts : List (Option (List ℕ))) → length ts < 2 ^ 32 → AllByRecursion text_bodies.IsValue (present ts) → (has_encoding Varchar (text_bodies.column_of ts).encoding ≡ true) × (length (text_bodies.column_of ts).bitmap ≡ bitmap_size (length ts) (text_bodies.column_of ts).nulls) × (length (text_bodies.column_of ts).body < 2 ^ 64)
unfolding text_bodies.column_of
text_column ts few all = let le = text_body_le ts all in (text_form (text_bodies.encoding_of (present ts)), bitmap_length ts, omega (arith, le))

-- ---- the head

byte_again : (end b : ℕ) (rest : List ℕ) → number_at w8 end (b ∷ rest) ≡ Ok (b, rest)
byte_again end b rest = let t : ltb (suc (length rest)) 1 ≡ false = le-ltb (suc (length rest)) 1 (omega arith) in rw t refl

kind_again : (kind : Kind) (end : ℕ) (rest : List ℕ) → kind_at end (kind_code kind ∷ rest) ≡ Ok (kind, rest)
unfolding kind_at
kind_again Int end rest = rw (byte_again end 1 rest) refl
kind_again Date end rest = rw (byte_again end 2 rest) refl
kind_again Varchar end rest = rw (byte_again end 3 rest) refl

encoding_again : (kind : Kind) (end encoding : ℕ) (rest : List ℕ) → has_encoding kind encoding ≡ true → encoding_at kind end (encoding ∷ rest) ≡ Ok (encoding, rest)
unfolding encoding_at
encoding_again kind end encoding rest h = rw (byte_again end encoding rest, h) refl

nulls_again : (end : ℕ) (nulls : Bool) (rest : List ℕ) → nulls_at end (null_code nulls ∷ rest) ≡ Ok (nulls, rest)
unfolding nulls_at
nulls_again end false rest = rw (byte_again end 0 rest) refl
nulls_again end true rest = rw (byte_again end 1 rest) refl

head_again : (kind : Kind) (encoding : ℕ) (nulls : Bool) (size end : ℕ) (rest : List ℕ) → has_encoding kind encoding ≡ true → size < 2 ^ 64
    → head_at end (kind_code kind ∷ encoding ∷ null_code nulls ∷ (to_le_bytes w64 size ++ rest)) ≡ Ok (record { kind = kind; encoding = encoding; nulls = nulls; size = size }, rest)
unfolding head_at
head_again kind encoding nulls size end rest h few =
    rw (kind_again kind end (encoding ∷ null_code nulls ∷ (to_le_bytes w64 size ++ rest)), encoding_again kind end encoding (null_code nulls ∷ (to_le_bytes w64 size ++ rest)) h, nulls_again end nulls (to_le_bytes w64 size ++ rest), long_again end size rest few) refl

-- ---- the column

not_short : (n : ℕ) → nat_lt n n ≡ false
not_short n = le-ltb n n (omega arith)

regroup : (kind : Kind) (encoding : ℕ) (nulls : Bool) (bitmap body rest : List ℕ) → spelled kind encoding nulls bitmap body ++ rest ≡ kind_code kind ∷ encoding ∷ null_code nulls ∷ (to_le_bytes w64 (length body) ++ (bitmap ++ (body ++ rest)))
regroup kind encoding nulls bitmap body rest =
    ap (λ (t : List ℕ). kind_code kind ∷ encoding ∷ null_code nulls ∷ t)
    (append_assoc (to_le_bytes w64 (length body)) (bitmap ++ body) rest ∙ ap (λ (t : List ℕ). to_le_bytes w64 (length body) ++ t) (append_assoc bitmap body rest))

spelled_again : (kind : Kind) (n encoding : ℕ) (nulls : Bool) (bitmap body : List ℕ) (vs : List Value) → has_encoding kind encoding ≡ true → length bitmap ≡ bitmap_size n nulls → length body < 2 ^ 64 → values_in kind n encoding nulls bitmap body ≡ Ok vs
    → (end : ℕ) (rest : List ℕ) → column_at n end (spelled kind encoding nulls bitmap body ++ rest) ≡ Ok ((kind, vs), rest)
unfolding column_at column_values_at
spelled_again kind n encoding nulls bitmap body vs form long few read end rest =
    let k : ℕ = bitmap_size n nulls in
    let size : ℕ = length body in
    let all : List ℕ = bitmap ++ (body ++ rest) in
    let head = head_again kind encoding nulls size end all form few in
    let front : take k all ≡ bitmap = take_at bitmap (body ++ rest) k long in
    let tail : drop k all ≡ body ++ rest = drop_at bitmap (body ++ rest) k long in
    let middle : take size (drop k all) ≡ body = ap (take size) tail ∙ take_at body rest size refl in
    let behind_it : drop size (drop k all) ≡ rest = ap (drop size) tail ∙ drop_at body rest size refl in
    ap (column_at n end) (regroup kind encoding nulls bitmap body rest) ∙ rw (head, front, middle, read, not_short size, behind_it) refl

numbers_back : (kind : Kind) (vs : List Value) → ((v : Value) → IsOf kind v → number_value kind (number_in v) ≡ v) → AllByRecursion (IsOf kind) vs → map (number_value kind) (map number_in vs) ≡ vs
numbers_back kind [] back all = refl
numbers_back kind (v ∷ vs) back all = rw (back v all.0, numbers_back kind vs back all.1) refl

int_back : (v : Value) → IsOf Int v → number_value Int (number_in v) ≡ v
int_back values.Null h = refl
int_back (values.Int n) h = refl
int_back (values.Date d) h = absurd h
int_back (values.Text t) h = absurd h

day_back : (v : Value) → IsOf Date v → number_value Date (number_in v) ≡ v
day_back values.Null h = refl
day_back (values.Int n) h = absurd h
day_back (values.Date d) h = refl
day_back (values.Text t) h = absurd h

text_back : (v : Value) → IsOf Varchar v → text_value (text_in v) ≡ v
text_back values.Null h = refl
text_back (values.Int n) h = absurd h
text_back (values.Date d) h = absurd h
text_back (values.Text t) h = refl

texts_back : (vs : List Value) → AllByRecursion (IsOf Varchar) vs → map text_value (map text_in vs) ≡ vs
texts_back [] all = refl
texts_back (v ∷ vs) all = rw (text_back v all.0, texts_back vs all.1) refl

ints_present : (vs : List Value) → AllByRecursion (IsOf Int) vs → AllByRecursion (number_bodies.IsValue Int) (present (map number_in vs))
ints_present [] all = tt
ints_present (values.Null ∷ vs) all = ints_present vs all.1
ints_present (values.Int n ∷ vs) all = (all.0, ints_present vs all.1)
ints_present (values.Date d ∷ vs) all = absurd all.0
ints_present (values.Text t ∷ vs) all = absurd all.0

pub days_present : (vs : List Value) → AllByRecursion (IsOf Date) vs → AllByRecursion (number_bodies.IsValue Date) (present (map number_in vs))
days_present [] all = tt
days_present (values.Null ∷ vs) all = days_present vs all.1
days_present (values.Int n ∷ vs) all = absurd all.0
days_present (values.Date d ∷ vs) all = (all.0, days_present vs all.1)
days_present (values.Text t ∷ vs) all = absurd all.0

texts_present : (vs : List Value) → AllByRecursion (IsOf Varchar) vs → AllByRecursion text_bodies.IsValue (present (map text_in vs))
texts_present [] all = tt
texts_present (values.Null ∷ vs) all = texts_present vs all.1
texts_present (values.Int n ∷ vs) all = absurd all.0
texts_present (values.Date d ∷ vs) all = absurd all.0
texts_present (values.Text t ∷ vs) all = (all.0, texts_present vs all.1)

pub column_again : (n : ℕ) (c : Kind × List Value) → n < 2 ^ 32 → IsColumn n c → (end : ℕ) (rest : List ℕ) → column_at n end (column_bytes c.0 c.1 ++ rest) ≡ Ok (c, rest)
column_again n (Int, vs) few is end rest =
    let ns : List (Option ℤ) = map number_in vs in
    let len : length ns ≡ n = length-map vs number_in ∙ is.0 in
    let column = number_bodies.column_of Int ns in
    let fits = int_column ns (omega (arith, len)) in
    let read : values_in Int n column.encoding column.nulls column.bitmap column.body ≡ Ok vs
    = ap (mapped (map (number_value Int))) (ap (λ m. numbers.rows_of Int m column) (sym len) ∙ number_laws.rows_again Int ns (ints_present vs is.1) (omega (arith, len))) ∙ ap (λ (t : List Value). Ok t) (numbers_back Int vs int_back is.1) in
    spelled_again Int n column.encoding column.nulls column.bitmap column.body vs fits.0 (fits.1 ∙ ap (λ m. bitmap_size m column.nulls) len) fits.2 read end rest
column_again n (Date, vs) few is end rest =
    let ns : List (Option ℤ) = map number_in vs in
    let len : length ns ≡ n = length-map vs number_in ∙ is.0 in
    let column = number_bodies.column_of Date ns in
    let fits = day_column ns (omega (arith, len)) in
    let read : values_in Date n column.encoding column.nulls column.bitmap column.body ≡ Ok vs
    = ap (mapped (map (number_value Date))) (ap (λ m. numbers.rows_of Date m column) (sym len) ∙ number_laws.rows_again Date ns (days_present vs is.1) (omega (arith, len))) ∙ ap (λ (t : List Value). Ok t) (numbers_back Date vs day_back is.1) in
    spelled_again Date n column.encoding column.nulls column.bitmap column.body vs fits.0 (fits.1 ∙ ap (λ m. bitmap_size m column.nulls) len) fits.2 read end rest
column_again n (Varchar, vs) few is end rest =
    let ts : List (Option (List ℕ)) = map text_in vs in
    let len : length ts ≡ n = length-map vs text_in ∙ is.0 in
    let column = text_bodies.column_of ts in
    let fits = text_column ts (omega (arith, len)) (texts_present vs is.1) in
    let read : values_in Varchar n column.encoding column.nulls column.bitmap column.body ≡ Ok vs
    = ap (mapped (map text_value)) (ap (λ m. texts.rows_of m column) (sym len) ∙ text_laws.rows_again ts (texts_present vs is.1) (omega (arith, len))) ∙ ap (λ (t : List Value). Ok t) (texts_back vs is.1) in
    spelled_again Varchar n column.encoding column.nulls column.bitmap column.body vs fits.0 (fits.1 ∙ ap (λ m. bitmap_size m column.nulls) len) fits.2 read end rest
