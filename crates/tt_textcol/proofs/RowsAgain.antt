-- The column of some rows is read as these rows.
use Rattle.std.proofs.Common.{◌≡◌, ℕ, ◌+◌, ◌^◌, ◌≤◌, ◌<◌, false, ltb, List, [], ◌++◌, length, Option, Ok, refl, sym, ap, ◌∙◌, append_assoc, eq-eqb, arith}
use Rattle.std.specs.List.{AllByRecursion}
use Rattle.std.specs.Int.{Width, byte_len, w16, to_le_bytes, from_le_bytes}
use Rattle.std.proofs.lemmas.Bool.{le-ltb}
use Rattle.std.proofs.lemmas.List.{append-nil, take_at, drop_at, length-append}
use Rattle.std.proofs.lemmas.Nat.{from_le_bytes-to_le_bytes_2}
use Rattle.tt_value.specs.columns.Body.{present, bitmap_of}
use Rattle.tt_value.specs.columns.Reading.{number_at}
use Rattle.tt_value.proofs.columns.Indexes.{present_le}
use Rattle.tt_value.proofs.columns.Again.{values_again, run_values_again, dictionary_values_again, flags_again, present_count_again, spread_again}
use Rattle.tt_textcol.specs.declared.encoding.Encoding.{Encoding}
use Rattle.tt_textcol.specs.declared.encoding.Encoding.TheVariants.{Plain, Run, Dictionary}
use Rattle.tt_textcol.specs.TextBody.{text_bytes, text_cmp, IsValue, body, code, encoding_of, column_of}
use Rattle.tt_textcol.proofs.TextLaws.{text_total, text_ties}
use Rattle.tt_textcol.specs.TextReading.{text_at, body_at, encoding_at, whole_body, values_in, rows_of}
use Rattle.tt_textcol.proofs.TextTests.{value_tested}

number_again : (w : Width) (end n : ℕ) (rest : List ℕ) → length (to_le_bytes w n) ≡ byte_len w → from_le_bytes w (to_le_bytes w n) ≡ n → number_at w end (to_le_bytes w n ++ rest) ≡ Ok (n, rest)
number_again w end n rest len back =
    let long : ltb (length (to_le_bytes w n ++ rest)) (byte_len w) ≡ false = le-ltb _ _ (omega (arith, length-append (to_le_bytes w n) rest)) in
    rw (long, take_at (to_le_bytes w n) rest (byte_len w) len, drop_at (to_le_bytes w n) rest (byte_len w) len, back) refl

pub text_again : (v : List ℕ) → IsValue v → (end : ℕ) (rest : List ℕ) → text_at end (text_bytes v ++ rest) ≡ Ok (v, rest)
unfolding text_at
text_again v valid end rest =
    let n : ℕ = length v in
    let short : n ≤ 65535 = valid.1.short in
    let long : ltb (length (v ++ rest)) n ≡ false = le-ltb _ _ (omega (arith, length-append v rest)) in
    let number : number_at w16 end (to_le_bytes w16 n ++ (v ++ rest)) ≡ Ok (n, v ++ rest) = number_again w16 end n (v ++ rest) refl (from_le_bytes-to_le_bytes_2 n (omega arith)) in
    ap (text_at end) (append_assoc (to_le_bytes w16 n) v rest) ∙ rw (number, long, take_at v rest n refl, drop_at v rest n refl, value_tested v valid) refl

body_again : (vs : List (List ℕ)) (e : Encoding) → AllByRecursion IsValue vs → length vs < 2 ^ 32 → (end : ℕ) → body_at e end (length vs) (body vs e ++ []) ≡ Ok (vs, [])
body_again vs Plain valid few end = values_again text_bytes text_at text_cmp IsValue text_again vs valid end []
body_again vs Run valid few end = run_values_again text_bytes text_at text_cmp IsValue text_again text_total text_ties vs valid few end []
body_again vs Dictionary valid few end = dictionary_values_again text_bytes text_at text_cmp IsValue text_again text_total text_ties vs valid few end []

encoding_again : (e : Encoding) → encoding_at (code e) ≡ Ok e
encoding_again Plain = refl
encoding_again Run = refl
encoding_again Dictionary = refl

whole_again : (vs : List (List ℕ)) (e : Encoding) → AllByRecursion IsValue vs → length vs < 2 ^ 32 → (end : ℕ) → whole_body e end (length vs) (body vs e) ≡ Ok vs
unfolding whole_body
whole_again vs e valid few end =
    let read : body_at e end (length vs) (body vs e) ≡ Ok (vs, []) = ap (body_at e end (length vs)) (sym (append-nil (body vs e))) ∙ body_again vs e valid few end in
    rw read refl

values_in_again : (vs : List (List ℕ)) → AllByRecursion IsValue vs → length vs < 2 ^ 32 → (end : ℕ) → values_in (encoding_of vs) end (length vs) (body vs (encoding_of vs)) ≡ Ok vs
unfolding values_in
values_in_again vs valid few end =
    let e : Encoding = encoding_of vs in
    rw (whole_again vs e valid few end, eq-eqb (code e) (code e) refl) refl

pub rows_again : (rows : List (Option (List ℕ))) → AllByRecursion IsValue (present rows) → length rows < 2 ^ 32 → rows_of (length rows) (column_of rows) ≡ Ok rows
unfolding rows_of column_of
rows_again rows valid few =
    let vs : List (List ℕ) = present rows in
    let e : Encoding = encoding_of vs in
    let le = present_le rows in
    rw (encoding_again e, flags_again rows, present_count_again rows, values_in_again vs valid (omega arith) (length (bitmap_of rows) + length (body vs e)), spread_again rows) refl
