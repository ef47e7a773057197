-- A column that is read is the column of the rows that it gives.
use Rattle.std.proofs.Common.{◌≡◌, ℕ, zero, suc, ◌+◌, ◌-◌, ◌^◌, ◌≤◌, ◌<◌, Bool, true, cond, ltb, List, [], ◌∷◌, ◌++◌, length, take, drop, Option, Result, Ok, Err, refl, sym, ap, subst, ◌∙◌, append_assoc, length-append, arith}
use Rattle.std.specs.Prelude.{◌==◌, IfOk}
use Rattle.std.specs.List.{AllByRecursion}
use Rattle.std.specs.Int.{w16, to_le_bytes, from_le_bytes}
use Rattle.std.proofs.lemmas.Bool.{ltb-false}
use Rattle.std.proofs.lemmas.List.{append-nil, take-append-drop}
use Rattle.tt_value.specs.columns.Body.{present, bitmap_of, has_null}
use Rattle.tt_value.specs.columns.Reading.{◌>>=◌, checked, is_longer, in_column, number_at, ended, flags_at, present_count, spread}
use Rattle.tt_value.proofs.columns.Packing.{Fit}
use Rattle.tt_value.proofs.columns.Accepted.{bound, held, in_column_taken, enough, same_ok, short_taken, ended_taken, values_taken, run_values_taken, dictionary_values_taken, rows_taken}
use Rattle.tt_textcol.specs.declared.encoding.Encoding.{Encoding}
use Rattle.tt_textcol.specs.declared.encoding.Encoding.TheVariants.{Plain, Run, Dictionary}
use Rattle.tt_textcol.specs.declared.column.TextColumn.{TextColumn}
use Rattle.tt_textcol.specs.TextBody.{text_bytes, text_cmp, IsValue, body, code, encoding_of, column_of}
use Rattle.tt_textcol.proofs.TextLaws.{text_total, text_ties}
use Rattle.tt_textcol.specs.declared.column.DecodeError.{DecodeError}
use Rattle.tt_textcol.specs.TextReading.{Gives, is_text, text_at, body_at, encoding_at, whole_body, values_in, column_with, rows_of}
use Rattle.tt_textcol.proofs.TextTests.{tested_value}

length-take : (n : ℕ) (bs : List ℕ) → n ≤ length bs → length (take n bs) ≡ n
length-take zero bs le = refl
length-take (suc n) [] le = absurd (omega arith)
length-take (suc n) (b ∷ bs) le = ap suc (length-take n bs (omega arith))

-- a number of two bytes
short_below : (end : ℕ) (bs : List ℕ) (x : ℕ × List ℕ) → Fit 8 bs → number_at w16 end bs ≡ Ok x → x.0 < 2 ^ 16
short_below end bs x fit e =
    let read = enough (ltb (length bs) 2) end (Ok (from_le_bytes w16 (take 2 bs), drop 2 bs)) x e in
    subst (λ (x : ℕ × List ℕ). x.0 < 2 ^ 16) (same_ok (from_le_bytes w16 (take 2 bs), drop 2 bs) x read.1) (two bs (ltb-false (length bs) 2 read.0) fit)
  where
    two : (bs : List ℕ) → 2 ≤ length bs → Fit 8 bs → from_le_bytes w16 (take 2 bs) < 2 ^ 16
    two [] le fit = absurd (omega arith)
    two (a ∷ []) le fit = absurd (omega arith)
    two (a ∷ b ∷ bs) le fit = let p = fit.0 in let q = fit.1.0 in omega arith

pub text_taken : (end : ℕ) (bs : List ℕ) (x : List ℕ × List ℕ) → Fit 8 bs → text_at end bs ≡ Ok x → (bs ≡ text_bytes x.0 ++ x.1) × IsValue x.0
unfolding text_at
text_taken end bs x fit e =
    let one = bound (number_at w16 end bs) (λ n. cond (ltb (length n.1) n.0) (Err end) (checked (is_text (take n.0 n.1)) (end - length bs) (take n.0 n.1, drop n.0 n.1))) x e in
    let n : ℕ = one.0.0 in
    let rest : List ℕ = one.0.1 in
    let front = short_taken end bs one.0 fit one.1 in
    let below = short_below end bs one.0 fit one.1 in
    let all = enough (ltb (length rest) n) end (checked (is_text (take n rest)) (end - length bs) (take n rest, drop n rest)) x one.2 in
    let good = held (is_text (take n rest)) (end - length bs) (take n rest, drop n rest) x all.1 in
    let len : length (take n rest) ≡ n = length-take n rest (ltb-false (length rest) n all.0) in
    subst (λ (x : List ℕ × List ℕ). (bs ≡ text_bytes x.0 ++ x.1) × IsValue x.0) good.1 (spelled bs n rest front len, tested_value (take n rest) good.0 (omega arith))
  where
    spelled : (bs : List ℕ) (n : ℕ) (rest : List ℕ) → bs ≡ to_le_bytes w16 n ++ rest → length (take n rest) ≡ n → bs ≡ text_bytes (take n rest) ++ drop n rest
    spelled bs n rest e len =
        e ∙ ap (λ t. to_le_bytes w16 n ++ t) (sym (take-append-drop n rest)) ∙ sym (append_assoc (to_le_bytes w16 n) (take n rest) (drop n rest)) ∙ ap (λ k. (to_le_bytes w16 k ++ take n rest) ++ drop n rest) (sym len)

abbrev IsBody : Encoding → ℕ → List ℕ → List (List ℕ) × List ℕ → Type 0
IsBody e count bs x = (bs ≡ body x.0 e ++ x.1) × (length x.0 ≡ count) × AllByRecursion IsValue x.0

body_taken : (e : Encoding) (end count : ℕ) (bs : List ℕ) (x : List (List ℕ) × List ℕ) → Fit 8 bs → body_at e end count bs ≡ Ok x → IsBody e count bs x
body_taken Plain end count bs x fit h = values_taken text_bytes text_at text_cmp IsValue text_taken end count bs x fit h
body_taken Run end count bs x fit h = run_values_taken text_bytes text_at text_cmp IsValue text_taken text_total text_ties end count bs x fit h
body_taken Dictionary end count bs x fit h = dictionary_values_taken text_bytes text_at text_cmp IsValue text_taken text_total text_ties end count bs x fit h

-- a body that was read whole is as long as that of its values
pub body_length : (e : Encoding) (end count : ℕ) (bs : List ℕ) (x : List (List ℕ) × List ℕ) → Fit 8 bs → body_at e end count bs ≡ Ok x → length x.1 ≡ 0 → length bs ≡ length (body x.0 e)
body_length e end count bs x fit h none =
    let are = body_taken e end count bs x fit h in
    ap length are.0 ∙ length-append (body x.0 e) x.1 ∙ omega arith

same_code : (a b : Encoding) → (code a == code b) ≡ true → a ≡ b
same_code Plain Plain e = refl
same_code Plain Run e = absurd cc
same_code Plain Dictionary e = absurd cc
same_code Run Plain e = absurd cc
same_code Run Run e = refl
same_code Run Dictionary e = absurd cc
same_code Dictionary Plain e = absurd cc
same_code Dictionary Run e = absurd cc
same_code Dictionary Dictionary e = refl

whole_taken : (e : Encoding) (end count : ℕ) (bs : List ℕ) (vs : List (List ℕ)) → Fit 8 bs → whole_body e end count bs ≡ Ok vs → (bs ≡ body vs e) × (length vs ≡ count) × AllByRecursion IsValue vs
unfolding whole_body
whole_taken e end count bs vs fit h =
    let one = bound (body_at e end count bs) (λ read. ended end read) vs h in
    let last = ended_taken end one.0 vs one.2 in
    let is = body_taken e end count bs one.0 fit one.1 in
    let whole : bs ≡ body one.0.0 e = is.0 ∙ ap (λ t. body one.0.0 e ++ t) last.0 ∙ append-nil (body one.0.0 e) in
    (whole ∙ ap (λ t. body t e) last.1, ap length (sym last.1) ∙ is.1, subst (λ (t : List (List ℕ)). AllByRecursion IsValue t) last.1 is.2)

values_in_taken : (e : Encoding) (end count : ℕ) (bs : List ℕ) (vs : List (List ℕ)) → Fit 8 bs → values_in e end count bs ≡ Ok vs → (bs ≡ body vs e) × (e ≡ encoding_of vs) × (length vs ≡ count) × AllByRecursion IsValue vs
unfolding values_in
values_in_taken e end count bs vs fit h =
    let one = bound (in_column (whole_body e end count bs)) (λ vs. checked (code (encoding_of vs) == code e) is_longer vs) vs h in
    let are = whole_taken e end count bs one.0 fit (in_column_taken (whole_body e end count bs) one.0 one.1) in
    let ruled = held (code (encoding_of one.0) == code e) is_longer one.0 vs one.2 in
    let same : one.0 ≡ vs = ruled.1 in
    (are.0 ∙ ap (λ t. body t e) same, sym (same_code (encoding_of one.0) e ruled.0) ∙ ap encoding_of same, ap length (sym same) ∙ are.1, subst (λ (t : List (List ℕ)). AllByRecursion IsValue t) same are.2)

encoding_taken : (n : ℕ) (e : Encoding) → encoding_at n ≡ Ok e → n ≡ code e
encoding_taken zero e h = ap code (same_ok Plain e h)
encoding_taken (suc zero) e h = absurd cc
encoding_taken (suc (suc zero)) e h = ap code (same_ok Run e h)
encoding_taken (suc (suc (suc zero))) e h = ap code (same_ok Dictionary e h)
encoding_taken (suc (suc (suc (suc n)))) e h = absurd cc

-- the parts of a column
record_is : (column : TextColumn) (encoding : ℕ) (nulls : Bool) (bitmap body : List ℕ) → column.encoding ≡ encoding → column.nulls ≡ nulls → column.bitmap ≡ bitmap → column.body ≡ body
    → (◌≡◌ {A = TextColumn} column (record { encoding = encoding; nulls = nulls; bitmap = bitmap; body = body }))
record_is column encoding nulls bitmap body a b c d =
    ap (λ (n : ℕ). record { encoding = n; nulls = column.nulls; bitmap = column.bitmap; body = column.body }) a
    ∙ ap (λ (t : Bool). record { encoding = encoding; nulls = t; bitmap = column.bitmap; body = column.body }) b
    ∙ ap (λ (bs : List ℕ). record { encoding = encoding; nulls = nulls; bitmap = bs; body = column.body }) c
    ∙ ap (λ (bs : List ℕ). record { encoding = encoding; nulls = nulls; bitmap = bitmap; body = bs }) d

column_parts : (column : TextColumn) (rows : List (Option (List ℕ))) → column.encoding ≡ code (encoding_of (present rows)) → column.nulls ≡ has_null rows → column.bitmap ≡ bitmap_of rows → column.body ≡ body (present rows) (encoding_of (present rows)) → column ≡ column_of rows
unfolding column_of
column_parts column rows a b c d = record_is column (code (encoding_of (present rows))) (has_null rows) (bitmap_of rows) (body (present rows) (encoding_of (present rows))) a b c d

pub column_taken : (rows : ℕ) (column : TextColumn) (read : List (Option (List ℕ))) → Fit 8 column.bitmap → Fit 8 column.body → rows_of rows column ≡ Ok read → (column ≡ column_of read) × (length read ≡ rows) × AllByRecursion IsValue (present read)
unfolding rows_of
column_taken rows column read fit_map fit_body h =
    let end : ℕ = length column.bitmap + length column.body in
    let one = bound (encoding_at column.encoding) (λ e. in_column (flags_at rows column.nulls column.bitmap) >>= λ flags. values_in e end (present_count flags) column.body >>= λ vs. Ok (spread flags vs)) read h in
    let e : Encoding = one.0 in
    let two = bound (in_column (flags_at rows column.nulls column.bitmap)) (λ flags. values_in e end (present_count flags) column.body >>= λ vs. Ok (spread flags vs)) read one.2 in
    let flags : List ℕ = two.0 in
    let three = bound (values_in e end (present_count flags) column.body) (λ vs. Ok (spread flags vs)) read two.2 in
    let vs : List (List ℕ) = three.0 in
    let is = values_in_taken e end (present_count flags) column.body vs fit_body three.1 in
    let nulls = rows_taken rows column.nulls column.bitmap flags vs fit_map (in_column_taken (flags_at rows column.nulls column.bitmap) flags two.1) is.2 in
    let code_is = encoding_taken column.encoding e one.1 in
    subst (λ (read : List (Option (List ℕ))). (column ≡ column_of read) × (length read ≡ rows) × AllByRecursion IsValue (present read)) (same_ok (spread flags vs) read three.2) (
      column_parts column (spread flags vs)
          (code_is ∙ ap code is.1 ∙ ap (λ t. code (encoding_of t)) (sym nulls.2)) nulls.1 nulls.0
          (is.0 ∙ ap (λ k. body vs k) is.1 ∙ ap (λ t. body t (encoding_of t)) (sym nulls.2)),
      nulls.3,
      subst (λ (t : List (List ℕ)). AllByRecursion IsValue t) (sym nulls.2) is.3,
    )

-- what was read of the bytes of a column was read of the column
pub same_given : {X : Type 0} (view : X → List (Option (List ℕ))) (result : Result X DecodeError) (rows : ℕ) (column : TextColumn) (bitmap body : List ℕ) → bitmap ≡ column.bitmap → body ≡ column.body
    → Gives view result (rows_of rows (column_with column.encoding column.nulls bitmap body)) → Gives view result (rows_of rows column)
same_given view result rows column bitmap body e f h =
    subst (λ (bs : List ℕ). Gives view result (rows_of rows (column_with column.encoding column.nulls column.bitmap bs))) f
    (subst (λ (bs : List ℕ). Gives view result (rows_of rows (column_with column.encoding column.nulls bs body))) e h)

pub only_given : {X : Type 0} (rows : ℕ) (column : TextColumn) (view : X → List (Option (List ℕ))) (result : Result X DecodeError) → Fit 8 column.bitmap → Fit 8 column.body → Gives view result (rows_of rows column)
    → IfOk result (λ v. (column ≡ column_of (view v)) × (length (view v) ≡ rows) × AllByRecursion IsValue (present (view v)))
only_given rows column view (Ok v) fit_map fit_body h = column_taken rows column (view v) fit_map fit_body h
only_given rows column view (Err e) fit_map fit_body h = tt
