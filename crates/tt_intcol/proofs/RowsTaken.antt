-- Each column that is read is the column of the rows that it gives.
use Rattle.std.proofs.Common.{◌≡◌, ℕ, zero, suc, ℤ, pos, ◌+ℤ◌, ◌≤ℤ◌, ◌+◌, ◌-◌, ◌^◌, ◌<◌, Bool, true, false, not, ltb, ◌&&◌, ◌||◌, List, [], ◌∷◌, ◌++◌, length, take, drop, map, Option, Result, Ok, Err, refl, sym, ap, subst, ◌∙◌, append_assoc, length-append, arith, ◌⊎◌, inl, inr}
use Rattle.std.specs.Prelude.{◌==◌, fold, IfOk, All}
use Rattle.std.specs.List.{AllByRecursion, list_any, list_all}
use Rattle.std.specs.Int.{w8, w32, w64, to_le_bytes, from_le_bytes, cast_unsigned, cast_signed, int_min}
use Rattle.std.specs.Int.RustNames.{FitsSigned}
use Rattle.std.specs.Ordering.{int_cmp}
use Rattle.std.proofs.lemmas.Bool.{eqb-true}
use Rattle.std.proofs.lemmas.Cmp.{int_cmp_total}
use Rattle.std.proofs.lemmas.Int.{ints, of_z-to_z}
use Rattle.std.proofs.lemmas.List.{append-nil, length-map}
use Rattle.std.proofs.lemmas.Map.Lookups.{exact_signed}
use Rattle.tt_value.specs.declared.value.Kind.{Kind}
use Rattle.tt_value.specs.declared.value.Kind.TheVariants.{Int, Date, Varchar}
use Rattle.tt_value.specs.columns.Packing.{packed, width_of}
use Rattle.tt_value.specs.columns.Body.{word, present, has_null, bitmap_of}
use Rattle.tt_value.specs.columns.Reading.{◌>>=◌, checked, at_encoding, is_longer, in_column, number_at, packed_at, ended, flags_at, present_count, spread}
use Rattle.tt_value.proofs.columns.Packing.{Fit}
use Rattle.tt_value.proofs.columns.Accepted.{same_ok, bound, held, in_column_taken, enough, fit_rest, word_taken, long_taken, packed_taken, ended_taken, values_taken, run_values_taken, dictionary_values_taken, rows_taken}
use Rattle.tt_intcol.proofs.RowsAgain.{low_bytes, day_mod, fits_all}
use Rattle.tt_intcol.specs.declared.encoding.Encoding.{Encoding}
use Rattle.tt_intcol.specs.declared.encoding.Encoding.TheVariants.{Plain, Frame, Run, Dictionary}
use Rattle.tt_intcol.specs.declared.column.IntColumn.{IntColumn}
use Rattle.tt_intcol.specs.declared.column.DecodeError.{DecodeError}
use Rattle.tt_intcol.specs.IntBody.{value_bytes, IsDay, IsValue, least_of, height, greatest_of, frame_body, body, code, encoding_of, column_of}
use Rattle.tt_intcol.specs.IntReading.{Gives, is_day, date_at, int_at, value_at, is_within, is_frame, frame_at, body_at, encoding_at, is_empty_frame, whole_body, values_in, column_with, rows_of}

-- ---- values

abbrev IsSpelled : Kind → List ℕ → ℤ × List ℕ → Type 0
IsSpelled kind bs x = (bs ≡ value_bytes kind x.0 ++ x.1) × IsValue kind x.0

bytes_below : (n : ℕ) → from_le_bytes w64 (to_le_bytes w64 n) < 2 ^ 64
bytes_below n = omega arith

words_below : (n : ℕ) → from_le_bytes w32 (to_le_bytes w32 n) < 2 ^ 32
words_below n = omega arith

signed_fits : (n : ℕ) → n < 2 ^ 64 → FitsSigned w64 (cast_signed w64 n)
signed_fits n lt = omega (arith, ints)

day_held : (v : ℤ) → is_day v ≡ true → IsDay v
day_held v h = grind (arith, ints)

-- the low four bytes of a day are those of its four
day_bytes : (v : ℤ) → IsDay v → value_bytes Date v ≡ word (cast_unsigned w32 v)
day_bytes v day = low_bytes (cast_unsigned w64 v) ∙ ap word (day_mod v day)

number_below : (n : ℕ) (bs rest : List ℕ) → bs ≡ to_le_bytes w64 n ++ rest → n ≡ from_le_bytes w64 (take 8 bs) → n < 2 ^ 64
number_below n bs rest same is = let e : n ≡ from_le_bytes w64 (to_le_bytes w64 n) = is ∙ ap (λ (t : List ℕ). from_le_bytes w64 (take 8 t)) same in let lt = bytes_below n in rw (← e) at lt

word_below : (n : ℕ) (bs rest : List ℕ) → bs ≡ word n ++ rest → n ≡ from_le_bytes w32 (take 4 bs) → n < 2 ^ 32
word_below n bs rest same is = let e : n ≡ from_le_bytes w32 (to_le_bytes w32 n) = is ∙ ap (λ (t : List ℕ). from_le_bytes w32 (take 4 t)) same in let lt = words_below n in rw (← e) at lt

long_is : (end : ℕ) (bs : List ℕ) (x : ℕ × List ℕ) → number_at w64 end bs ≡ Ok x → x.0 ≡ from_le_bytes w64 (take 8 bs)
long_is end bs x e = let read = enough (ltb (length bs) 8) end (Ok (from_le_bytes w64 (take 8 bs), drop 8 bs)) x e in ap (λ (y : ℕ × List ℕ). y.0) (sym (same_ok (from_le_bytes w64 (take 8 bs), drop 8 bs) x read.1))

word_is : (end : ℕ) (bs : List ℕ) (x : ℕ × List ℕ) → number_at w32 end bs ≡ Ok x → x.0 ≡ from_le_bytes w32 (take 4 bs)
word_is end bs x e = let read = enough (ltb (length bs) 4) end (Ok (from_le_bytes w32 (take 4 bs), drop 4 bs)) x e in ap (λ (y : ℕ × List ℕ). y.0) (sym (same_ok (from_le_bytes w32 (take 4 bs), drop 4 bs) x read.1))

int_taken : (end : ℕ) (bs : List ℕ) (x : ℤ × List ℕ) → Fit 8 bs → int_at end bs ≡ Ok x → IsSpelled Int bs x
unfolding int_at
int_taken end bs x fit e =
    let one = bound (number_at w64 end bs) (λ n. Ok (cast_signed w64 n.0, n.1)) x e in
    let n : ℕ × List ℕ = one.0 in
    let same : bs ≡ to_le_bytes w64 n.0 ++ n.1 = long_taken end bs n fit one.1 in
    let lt : n.0 < 2 ^ 64 = number_below n.0 bs n.1 same (long_is end bs n one.1) in
    let back : cast_unsigned w64 (cast_signed w64 n.0) ≡ n.0 = of_z-to_z w64 n.0 lt in
    subst (λ (x : ℤ × List ℕ). IsSpelled Int bs x) (same_ok (cast_signed w64 n.0, n.1) x one.2) (same ∙ ap (λ m. to_le_bytes w64 m ++ n.1) (sym back), signed_fits n.0 lt)

date_taken : (end : ℕ) (bs : List ℕ) (x : ℤ × List ℕ) → Fit 8 bs → date_at end bs ≡ Ok x → IsSpelled Date bs x
unfolding date_at
date_taken end bs x fit e =
    let one = bound (number_at w32 end bs) (λ n. checked (is_day (cast_signed w32 n.0)) (end - length bs) (cast_signed w32 n.0, n.1)) x e in
    let n : ℕ × List ℕ = one.0 in
    let ruled = held (is_day (cast_signed w32 n.0)) (end - length bs) (cast_signed w32 n.0, n.1) x one.2 in
    let same : bs ≡ word n.0 ++ n.1 = word_taken end bs n fit one.1 in
    let lt : n.0 < 2 ^ 32 = word_below n.0 bs n.1 same (word_is end bs n one.1) in
    let day : IsDay (cast_signed w32 n.0) = day_held (cast_signed w32 n.0) ruled.0 in
    let back : value_bytes Date (cast_signed w32 n.0) ≡ word n.0 = day_bytes (cast_signed w32 n.0) day ∙ ap word (of_z-to_z w32 n.0 lt) in
    subst (λ (x : ℤ × List ℕ). IsSpelled Date bs x) ruled.1 (same ∙ ap (λ (t : List ℕ). t ++ n.1) (sym back), day)

pub value_taken : (kind : Kind) (end : ℕ) (bs : List ℕ) (x : ℤ × List ℕ) → Fit 8 bs → value_at kind end bs ≡ Ok x → (bs ≡ value_bytes kind x.0 ++ x.1) × IsValue kind x.0
value_taken Int end bs x fit e = int_taken end bs x fit e
value_taken Date end bs x fit e = date_taken end bs x fit e
value_taken Varchar end bs x fit e = int_taken end bs x fit e

-- ---- frames

byte_taken : (end : ℕ) (bs : List ℕ) (x : ℕ × List ℕ) → number_at w8 end bs ≡ Ok x → bs ≡ x.0 ∷ x.1
byte_taken end [] x e = absurd cc
byte_taken end (b ∷ bs) x e =
    let read = enough (ltb (suc (length bs)) 1) end (Ok (b, bs)) x e in
    subst (λ (x : ℕ × List ℕ). b ∷ bs ≡ x.0 ∷ x.1) (same_ok (b, bs) x read.1) refl

abbrev raise : ℤ → ℕ → ℤ
raise low n = low +ℤ pos n

-- what stands so far above a value stands so far above it
height_raised : (low : ℤ) (n : ℕ) → height low (raise low n) ≡ n
height_raised low n = omega (arith, ints)

heights_raised : (low : ℤ) (ns : List ℕ) → map (height low) (map (raise low) ns) ≡ ns
heights_raised low [] = refl
heights_raised low (n ∷ ns) = rw (height_raised low n, heights_raised low ns) refl

abbrev some_zero : List ℕ → Bool
some_zero ns = list_any (λ n. n == 0) ns

least_min : (low x : ℤ) (n : ℕ) → low ≤ℤ x → low ≤ℤ int_min x (raise low n)
least_min low x n le = grind (arith, ints)

least_kept : (low x : ℤ) (n : ℕ) → x ≡ low → int_min x (raise low n) ≡ low
least_kept low x n e = grind (arith, ints)

least_met : (low x : ℤ) (n : ℕ) → low ≤ℤ x → n ≡ 0 → int_min x (raise low n) ≡ low
least_met low x n le e = grind (arith, ints)

least_fold : (low x : ℤ) (ns : List ℕ) → low ≤ℤ x → (x ≡ low) ⊎ (some_zero ns ≡ true) → fold int_min x (map (raise low) ns) ≡ low
least_fold low x [] le (inl e) = e
least_fold low x [] le (inr e) = absurd cc
least_fold low x (n ∷ ns) le (inl e) = least_fold low (int_min x (raise low n)) ns (least_min low x n le) (inl (least_kept low x n e))
least_fold low x (n ∷ ns) le (inr e) = least_fold low (int_min x (raise low n)) ns (least_min low x n le) (go (n == 0) refl e)
  where
    go : (b : Bool) → (n == 0) ≡ b → (b || some_zero ns) ≡ true → (int_min x (raise low n) ≡ low) ⊎ (some_zero ns ≡ true)
    go true t h = inl (least_met low x n le (eqb-true n 0 t))
    go false t h = inr h

raised_le : (low : ℤ) (n : ℕ) → low ≤ℤ raise low n
raised_le low n = omega (arith, ints)

raised_none : (low : ℤ) (n : ℕ) → n ≡ 0 → raise low n ≡ low
raised_none low n e = omega (arith, ints)

least_raised : (low : ℤ) (ns : List ℕ) → some_zero ns ≡ true → least_of (map (raise low) ns) ≡ low
least_raised low [] e = absurd cc
least_raised low (n ∷ ns) e = least_fold low (raise low n) ns (raised_le low n) (go (n == 0) refl e)
  where
    go : (b : Bool) → (n == 0) ≡ b → (b || some_zero ns) ≡ true → (raise low n ≡ low) ⊎ (some_zero ns ≡ true)
    go true t h = inl (raised_none low n (eqb-true n 0 t))
    go false t h = inr h

within_int : (low : ℤ) (n : ℕ) → FitsSigned w64 low → is_within Int low n ≡ true → FitsSigned w64 (raise low n)
within_int low n fits h = let e : raise low n ≤ℤ pos 9223372036854775807 = (grind (arith, ints)) in omega (arith, ints)

within_date : (low : ℤ) (n : ℕ) → IsDay low → is_within Date low n ≡ true → IsDay (raise low n)
within_date low n day h = let p = day.0 in (omega (arith, ints), grind (arith, ints))

within_is : (kind : Kind) (low : ℤ) (n : ℕ) → IsValue kind low → is_within kind low n ≡ true → IsValue kind (raise low n)
within_is Int low n valid h = within_int low n valid h
within_is Date low n valid h = within_date low n valid h
within_is Varchar low n valid h = within_int low n valid h

both_true : (b c : Bool) → (b && c) ≡ true → (b ≡ true) × (c ≡ true)
both_true true c e = (refl, e)
both_true false c e = absurd cc

all_within_are : (kind : Kind) (low : ℤ) (ns : List ℕ) → IsValue kind low → list_all (is_within kind low) ns ≡ true → AllByRecursion (IsValue kind) (map (raise low) ns)
all_within_are kind low [] valid e = tt
all_within_are kind low (n ∷ ns) valid e =
    let both = both_true (is_within kind low n) (list_all (is_within kind low) ns) e in
    (within_is kind low n valid both.0, all_within_are kind low ns valid both.1)

abbrev AreValues : Kind → Encoding → ℕ → List ℕ → List ℤ × List ℕ → Type 0
AreValues kind e count bs x = (bs ≡ body kind x.0 e ++ x.1) × (length x.0 ≡ count) × AllByRecursion (IsValue kind) x.0

frame_written : (kind : Kind) (bs first second rest : List ℕ) (low : ℤ) (w : ℕ) (ns : List ℕ) → bs ≡ value_bytes kind low ++ first → first ≡ w ∷ second → second ≡ packed w ns ++ rest → some_zero ns ≡ true → width_of (greatest_of ns) ≡ w
    → bs ≡ frame_body kind (map (raise low) ns) ++ rest
frame_written kind bs first second rest low w ns a b c met wide =
    let vs : List ℤ = map (raise low) ns in
    let least : least_of vs ≡ low = least_raised low ns met in
    let heights : map (height (least_of vs)) vs ≡ ns = ap (λ l. map (height l) vs) least ∙ heights_raised low ns in
    let e : bs ≡ (value_bytes kind low ++ (w ∷ packed w ns)) ++ rest
    = a ∙ ap (λ (t : List ℕ). value_bytes kind low ++ t) (b ∙ ap (λ (t : List ℕ). w ∷ t) c) ∙ sym (append_assoc (value_bytes kind low) (w ∷ packed w ns) rest) in
    e ∙ ap (λ m. (value_bytes kind low ++ (m ∷ packed m ns)) ++ rest) (sym wide)
    ∙ ap (λ (ms : List ℕ). (value_bytes kind low ++ (width_of (greatest_of ms) ∷ packed (width_of (greatest_of ms)) ms)) ++ rest) (sym heights)
    ∙ ap (λ l. (value_bytes kind l ++ (width_of (greatest_of (map (height (least_of vs)) vs)) ∷ packed (width_of (greatest_of (map (height (least_of vs)) vs))) (map (height (least_of vs)) vs))) ++ rest) (sym least)

frame_taken : (kind : Kind) (end count : ℕ) (bs : List ℕ) (x : List ℤ × List ℕ) → Fit 8 bs → frame_at kind end count bs ≡ Ok x → AreValues kind Frame count bs x
unfolding frame_at
frame_taken kind end count bs x fit e =
    let one = bound (value_at kind end bs) (λ low. number_at w8 end low.1 >>= λ width. packed_at end width.0 count width.1 >>= λ ns. checked (is_frame kind low.0 width.0 ns.0) (end - length width.1) (map (λ n. low.0 +ℤ pos n) ns.0, ns.1)) x e in
    let low : ℤ × List ℕ = one.0 in
    let head = value_taken kind end bs low fit one.1 in
    let fit_one = fit_rest bs (value_bytes kind low.0) low.1 fit head.0 in
    let two = bound (number_at w8 end low.1) (λ width. packed_at end width.0 count width.1 >>= λ ns. checked (is_frame kind low.0 width.0 ns.0) (end - length width.1) (map (λ n. low.0 +ℤ pos n) ns.0, ns.1)) x one.2 in
    let width : ℕ × List ℕ = two.0 in
    let byte : low.1 ≡ width.0 ∷ width.1 = byte_taken end low.1 width two.1 in
    let fit_two = fit_rest low.1 (width.0 ∷ []) width.1 fit_one byte in
    let three = bound (packed_at end width.0 count width.1) (λ ns. checked (is_frame kind low.0 width.0 ns.0) (end - length width.1) (map (λ n. low.0 +ℤ pos n) ns.0, ns.1)) x two.2 in
    let ns : List ℕ × List ℕ = three.0 in
    let are = packed_taken end width.0 count width.1 ns fit_two three.1 in
    let ruled = held (is_frame kind low.0 width.0 ns.0) (end - length width.1) (map (raise low.0) ns.0, ns.1) x three.2 in
    let all = both_true (some_zero ns.0 && (width_of (greatest_of ns.0) == width.0)) (list_all (is_within kind low.0) ns.0) ruled.0 in
    let two_of = both_true (some_zero ns.0) (width_of (greatest_of ns.0) == width.0) all.0 in
    subst (λ (x : List ℤ × List ℕ). AreValues kind Frame count bs x) ruled.1 (
      frame_written kind bs low.1 width.1 ns.1 low.0 width.0 ns.0 head.0 byte are.0 two_of.0 (eqb-true (width_of (greatest_of ns.0)) width.0 two_of.1),
      length-map ns.0 (raise low.0) ∙ are.1,
      all_within_are kind low.0 ns.0 head.1 all.1,
    )

-- ---- bodies and columns

body_taken : (kind : Kind) (e : Encoding) (end count : ℕ) (bs : List ℕ) (x : List ℤ × List ℕ) → Fit 8 bs → body_at kind e end count bs ≡ Ok x → AreValues kind e count bs x
body_taken kind Plain end count bs x fit h = values_taken (value_bytes kind) (value_at kind) int_cmp (IsValue kind) (value_taken kind) end count bs x fit h
body_taken kind Frame end count bs x fit h = frame_taken kind end count bs x fit h
body_taken kind Run end count bs x fit h = run_values_taken (value_bytes kind) (value_at kind) int_cmp (IsValue kind) (value_taken kind) int_cmp_total exact_signed end count bs x fit h
body_taken kind Dictionary end count bs x fit h = dictionary_values_taken (value_bytes kind) (value_at kind) int_cmp (IsValue kind) (value_taken kind) int_cmp_total exact_signed end count bs x fit h

-- a body that was read whole is as long as that of its values
pub body_length : (kind : Kind) (e : Encoding) (end count : ℕ) (bs : List ℕ) (x : List ℤ × List ℕ) → All (λ byte. byte < 256) bs → body_at kind e end count bs ≡ Ok x → length x.1 ≡ 0 → length bs ≡ length (body kind x.0 e)
body_length kind e end count bs x bytes h none =
    let are = body_taken kind e end count bs x (fits_all 8 bs (λ k lt. bytes k 0 lt)) h in
    ap length are.0 ∙ length-append (body kind x.0 e) x.1 ∙ omega arith

whole_taken : (kind : Kind) (e : Encoding) (end count : ℕ) (bs : List ℕ) (vs : List ℤ) → Fit 8 bs → whole_body kind e end count bs ≡ Ok vs → (bs ≡ body kind vs e) × (length vs ≡ count) × AllByRecursion (IsValue kind) vs
unfolding whole_body
whole_taken kind e end count bs vs fit h =
    let one = bound (body_at kind e end count bs) (λ read. ended end read) vs h in
    let read : List ℤ × List ℕ = one.0 in
    let last = ended_taken end read vs one.2 in
    let are = body_taken kind e end count bs read fit one.1 in
    let all : bs ≡ body kind read.0 e = are.0 ∙ ap (λ (t : List ℕ). body kind read.0 e ++ t) last.0 ∙ append-nil (body kind read.0 e) in
    (all ∙ ap (λ (t : List ℤ). body kind t e) last.1, ap length (sym last.1) ∙ are.1, subst (λ (t : List ℤ). AllByRecursion (IsValue kind) t) last.1 are.2)

same_code : (d e : Encoding) → code d ≡ code e → d ≡ e
same_code Plain Plain h = refl
same_code Frame Frame h = refl
same_code Run Run h = refl
same_code Dictionary Dictionary h = refl
same_code _ _ h = absurd (omega arith)

values_in_taken : (kind : Kind) (e : Encoding) (end count : ℕ) (bs : List ℕ) (vs : List ℤ) → Fit 8 bs → values_in kind e end count bs ≡ Ok vs
    → (e ≡ encoding_of kind vs) × (bs ≡ body kind vs (encoding_of kind vs)) × (length vs ≡ count) × AllByRecursion (IsValue kind) vs
unfolding values_in
values_in_taken kind e end count bs vs fit h =
    let form = bound (checked (not (is_empty_frame e count)) at_encoding e) (λ f. in_column (whole_body kind f end count bs) >>= λ us. checked (code (encoding_of kind us) == code f) is_longer us) vs h in
    let kept = held (not (is_empty_frame e count)) at_encoding e form.0 form.1 in
    whole_values kind e end count bs vs fit (subst (λ (f : Encoding). (in_column (whole_body kind f end count bs) >>= λ us. checked (code (encoding_of kind us) == code f) is_longer us) ≡ Ok vs) (sym kept.1) form.2)
  where
    whole_values : (kind : Kind) (e : Encoding) (end count : ℕ) (bs : List ℕ) (vs : List ℤ) → Fit 8 bs → (in_column (whole_body kind e end count bs) >>= λ us. checked (code (encoding_of kind us) == code e) is_longer us) ≡ Ok vs
        → (e ≡ encoding_of kind vs) × (bs ≡ body kind vs (encoding_of kind vs)) × (length vs ≡ count) × AllByRecursion (IsValue kind) vs
    whole_values kind e end count bs vs fit h =
        let one = bound (in_column (whole_body kind e end count bs)) (λ us. checked (code (encoding_of kind us) == code e) is_longer us) vs h in
        let us : List ℤ = one.0 in
        let are = whole_taken kind e end count bs us fit (in_column_taken (whole_body kind e end count bs) us one.1) in
        let ruled = held (code (encoding_of kind us) == code e) is_longer us vs one.2 in
        let shortest : e ≡ encoding_of kind us = sym (same_code (encoding_of kind us) e (eqb-true (code (encoding_of kind us)) (code e) ruled.0)) in
        subst (λ (vs : List ℤ). (e ≡ encoding_of kind vs) × (bs ≡ body kind vs (encoding_of kind vs)) × (length vs ≡ count) × AllByRecursion (IsValue kind) vs) ruled.1
        (shortest, are.0 ∙ ap (body kind us) shortest, are.1, are.2)

encoding_taken : (n : ℕ) (e : Encoding) → encoding_at n ≡ Ok e → n ≡ code e
encoding_taken zero e h = ap code (same_ok Plain e h)
encoding_taken (suc zero) e h = ap code (same_ok Frame e h)
encoding_taken (suc (suc zero)) e h = ap code (same_ok Run e h)
encoding_taken (suc (suc (suc zero))) e h = ap code (same_ok Dictionary e h)
encoding_taken (suc (suc (suc (suc n)))) e h = absurd cc

same_column : (column : IntColumn) (n : ℕ) (b : Bool) (bitmap bytes : List ℕ) → column.encoding ≡ n → column.nulls ≡ b → column.bitmap ≡ bitmap → column.body ≡ bytes → column ≡ (record { encoding = n; nulls = b; bitmap = bitmap; body = bytes })
same_column column n b bitmap bytes e f g h = rw (← e, ← f, ← g, ← h) refl

pub rows_are : (kind : Kind) (rows : ℕ) (column : IntColumn) (vs : List (Option ℤ)) → Fit 8 column.bitmap → Fit 8 column.body → rows_of kind rows column ≡ Ok vs
    → (column ≡ column_of kind vs) × (length vs ≡ rows) × AllByRecursion (IsValue kind) (present vs)
unfolding rows_of column_of
rows_are kind rows column vs fit_bitmap fit_body h =
    let end : ℕ = length column.bitmap + length column.body in
    let one = bound (encoding_at column.encoding) (λ e. in_column (flags_at rows column.nulls column.bitmap) >>= λ flags. values_in kind e end (present_count flags) column.body >>= λ us. Ok (spread flags us)) vs h in
    let e : Encoding = one.0 in
    let two = bound (in_column (flags_at rows column.nulls column.bitmap)) (λ flags. values_in kind e end (present_count flags) column.body >>= λ us. Ok (spread flags us)) vs one.2 in
    let flags : List ℕ = two.0 in
    let three = bound (values_in kind e end (present_count flags) column.body) (λ us. Ok (spread flags us)) vs two.2 in
    let us : List ℤ = three.0 in
    let are = values_in_taken kind e end (present_count flags) column.body us fit_body three.1 in
    let back = rows_taken rows column.nulls column.bitmap flags us fit_bitmap (in_column_taken (flags_at rows column.nulls column.bitmap) flags two.1) are.2 in
    let same : column ≡ column_of kind (spread flags us)
    = same_column column (code (encoding_of kind us)) (has_null (spread flags us)) (bitmap_of (spread flags us)) (body kind us (encoding_of kind us)) (encoding_taken column.encoding e one.1 ∙ ap code are.0) back.1 back.0 are.1
    ∙ ap (λ (t : List ℤ). record { encoding = code (encoding_of kind t); nulls = has_null (spread flags us); bitmap = bitmap_of (spread flags us); body = body kind t (encoding_of kind t) }) (sym back.2) in
    subst (λ (vs : List (Option ℤ)). (column ≡ column_of kind vs) × (length vs ≡ rows) × AllByRecursion (IsValue kind) (present vs)) (same_ok (spread flags us) vs three.2)
    (same, back.3, subst (λ (t : List ℤ). AllByRecursion (IsValue kind) t) (sym back.2) are.3)

-- ---- what a function that read a column returned

-- what was read of the bytes of a column was read of the column
pub same_given : {X : Type 0} (view : X → List (Option ℤ)) (result : Result X DecodeError) (kind : Kind) (rows : ℕ) (column : IntColumn) (bitmap body : List ℕ) → bitmap ≡ column.bitmap → body ≡ column.body
    → Gives view result (rows_of kind rows (column_with column.encoding column.nulls bitmap body)) → Gives view result (rows_of kind rows column)
same_given view result kind rows column bitmap body e f h =
    subst (λ (bs : List ℕ). Gives view result (rows_of kind rows (column_with column.encoding column.nulls column.bitmap bs))) f
    (subst (λ (bs : List ℕ). Gives view result (rows_of kind rows (column_with column.encoding column.nulls bs body))) e h)

abbrev pub IsColumnOf : Kind → ℕ → IntColumn → List (Option ℤ) → Type 0
IsColumnOf kind rows column vs = (column ≡ column_of kind vs) × (length vs ≡ rows) × AllByRecursion (IsValue kind) (present vs)

pub if_read : {X : Type 0} (view : X → List (Option ℤ)) (result : Result X DecodeError) (kind : Kind) (rows : ℕ) (column : IntColumn) → All (λ byte. byte < 256) column.bitmap → All (λ byte. byte < 256) column.body
    → Gives view result (rows_of kind rows column) → IfOk result (λ x. IsColumnOf kind rows column (view x))
if_read view (Ok x) kind rows column p q gives = rows_are kind rows column (view x) (fits_all 8 column.bitmap (λ k lt. p k 0 lt)) (fits_all 8 column.body (λ k lt. q k 0 lt)) gives
if_read view (Err e) kind rows column p q gives = tt

pub if_follows : {X E : Type 0} (result : Result X E) (P Q : X → Type 0) → IfOk result P → ((x : X) → P x → Q x) → IfOk result Q
if_follows (Ok x) P Q h f = f x h
if_follows (Err e) P Q h f = tt
