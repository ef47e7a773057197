-- The column of some rows is read as these rows.
use Rattle.std.proofs.Common.{◌≡◌, ℕ, suc, ℤ, pos, negsuc, ◌+ℤ◌, ◌≤ℤ◌, ◌+◌, ◌-◌, ◌%◌, ◌/◌, ◌^◌, ◌≤◌, ◌<◌, Bool, true, false, cond, ltb, ◌&&◌, ◌||◌, List, [], ◌∷◌, ◌++◌, length, take, map, max, get_or, Option, Ok, refl, sym, ap, subst, ◌∙◌, append_assoc, eq-eqb, arith, ◌⊎◌, inl, inr}
use Rattle.std.specs.Prelude.{◌==◌, fold}
use Rattle.std.specs.List.{AllByRecursion, list_any, list_all}
use Rattle.std.specs.Int.{w8, w32, w64, to_le_bytes, cast_unsigned, cast_signed, int_min}
use Rattle.std.specs.Int.RustNames.{FitsSigned}
use Rattle.std.specs.Ordering.{int_cmp}
use Rattle.std.proofs.lemmas.Bool.{le-ltb}
use Rattle.std.proofs.lemmas.Bool.Decides.{nat_tests}
use Rattle.std.proofs.lemmas.Cmp.{int_cmp_total}
use Rattle.std.proofs.lemmas.Int.{ints, to_z-of_z}
use Rattle.std.proofs.lemmas.List.{append-nil, length-map}
use Rattle.std.proofs.lemmas.Map.Lookups.{exact_signed}
use Rattle.tt_value.specs.declared.value.Kind.{Kind}
use Rattle.tt_value.specs.declared.value.Kind.TheVariants.{Int, Date, Varchar}
use Rattle.tt_value.specs.columns.Packing.{packed, width_of}
use Rattle.tt_value.specs.columns.Body.{present, bitmap_of}
use Rattle.tt_value.specs.columns.Reading.{checked, number_at, packed_at}
use Rattle.tt_value.proofs.columns.Packing.{Fit, width_holds}
use Rattle.tt_value.proofs.columns.Indexes.{at_most_greatest, present_le}
use Rattle.tt_value.proofs.columns.Again.{word_again, long_again, packed_again, values_again, run_values_again, dictionary_values_again, flags_again, present_count_again, spread_again}
use Rattle.tt_intcol.proofs.FrameLaws.{frame_read}
use Rattle.tt_intcol.specs.declared.encoding.Encoding.{Encoding}
use Rattle.tt_intcol.specs.declared.encoding.Encoding.TheVariants.{Plain, Frame, Run, Dictionary}
use Rattle.tt_intcol.specs.IntBody.{value_bytes, IsDay, IsValue, least_of, height, greatest_of, frame_body, body, code, encoding_of, column_of}
use Rattle.tt_intcol.specs.IntReading.{is_day, date_at, int_at, value_at, top_of, is_within, is_frame, frame_at, body_at, encoding_at, is_empty_frame, whole_body, values_in, rows_of}

unsigned_below : (v : ℤ) → FitsSigned w64 v → cast_unsigned w64 v < 2 ^ 64
unsigned_below v fits = omega (arith, ints)

int_again : (v : ℤ) → FitsSigned w64 v → (end : ℕ) (rest : List ℕ) → int_at end (to_le_bytes w64 (cast_unsigned w64 v) ++ rest) ≡ Ok (v, rest)
unfolding int_at
int_again v fits end rest = rw (long_again end (cast_unsigned w64 v) rest (unsigned_below v fits), to_z-of_z w64 v fits) refl

-- the low four bytes
pub low_bytes : (n : ℕ) → take 4 (to_le_bytes w64 n) ≡ to_le_bytes w32 (n % 2 ^ 32)
low_bytes n =
    let a : n % 256 ≡ n % 2 ^ 32 % 256 = omega arith in
    let b : n / 256 % 256 ≡ n % 2 ^ 32 / 256 % 256 = omega arith in
    let c : n / 65536 % 256 ≡ n % 2 ^ 32 / 65536 % 256 = omega arith in
    let d : n / 16777216 % 256 ≡ n % 2 ^ 32 / 16777216 % 256 = omega arith in
    cc

pub day_mod : (v : ℤ) → IsDay v → cast_unsigned w64 v % 2 ^ 32 ≡ cast_unsigned w32 v
day_mod (pos n) day = let p = day.0 in let q = day.1 in let le : n ≤ 2932896 = omega (arith, ints) in omega arith
day_mod (negsuc n) day = let p = day.0 in let q = day.1 in let le : n ≤ 719161 = omega (arith, ints) in omega arith

day_fits : (v : ℤ) → IsDay v → FitsSigned w32 v
day_fits v day = let p = day.0 in let q = day.1 in omega (arith, ints)

day_back : (v : ℤ) → IsDay v → cast_signed w32 (cast_unsigned w64 v % 2 ^ 32) ≡ v
day_back v day = ap (cast_signed w32) (day_mod v day) ∙ to_z-of_z w32 v (day_fits v day)

day_tested : (v : ℤ) → IsDay v → is_day v ≡ true
day_tested v day = let p = day.0 in let q = day.1 in grind (arith, ints)

date_again : (v : ℤ) → IsDay v → (end : ℕ) (rest : List ℕ) → date_at end (take 4 (to_le_bytes w64 (cast_unsigned w64 v)) ++ rest) ≡ Ok (v, rest)
unfolding date_at
date_again v day end rest =
    let n : ℕ = cast_unsigned w64 v % 2 ^ 32 in
    ap (λ t. date_at end (t ++ rest)) (low_bytes (cast_unsigned w64 v)) ∙ rw (word_again end n rest (omega arith), day_back v day, day_tested v day) refl

pub value_again : (kind : Kind) (v : ℤ) → IsValue kind v → (end : ℕ) (rest : List ℕ) → value_at kind end (value_bytes kind v ++ rest) ≡ Ok (v, rest)
value_again Int v fits end rest = int_again v fits end rest
value_again Date v day end rest = date_again v day end rest
value_again Varchar v fits end rest = int_again v fits end rest

-- ---- frames

fits_of : (kind : Kind) (v : ℤ) → IsValue kind v → FitsSigned w64 v
fits_of Int v h = h
fits_of Date v h = let p = h.0 in let q = h.1 in omega (arith, ints)
fits_of Varchar v h = h

top_le : (kind : Kind) (v : ℤ) → IsValue kind v → v ≤ℤ top_of kind
top_le Int v h = omega (arith, ints)
top_le Date v h = h.1
top_le Varchar v h = omega (arith, ints)

abbrev NotBelow : ℤ → List ℤ → Type 0
NotBelow low vs = AllByRecursion (λ v. low ≤ℤ v) vs

-- the least of some values is one of them, and none is below it
min_is : (x y : ℤ) → ((int_min x y ≡ x) × (x ≤ℤ y)) ⊎ ((int_min x y ≡ y) × (y ≤ℤ x))
min_is x y = grind (arith, ints)

abbrev is_zero : ℕ → Bool
is_zero n = n == 0

or_true : (b : Bool) {c : Bool} → c ≡ true → (b || c) ≡ true
or_true true e = refl
or_true false e = e

or_later : (a b c : Bool) → (a || c) ≡ true → (a || (b || c)) ≡ true
or_later true b c e = refl
or_later false b c e = or_true b e

height_itself : (v : ℤ) → (height v v == 0) ≡ true
height_itself v = eq-eqb (height v v) 0 (omega (arith, ints))

abbrev Least : Kind → ℤ → ℤ → List ℤ → Type 0
Least kind low x vs = IsValue kind low × (low ≤ℤ x) × NotBelow low vs × (list_any is_zero (map (height low) (x ∷ vs)) ≡ true)

min_fold : (kind : Kind) (x : ℤ) (vs : List ℤ) → IsValue kind x → AllByRecursion (IsValue kind) vs → Least kind (fold int_min x vs) x vs
min_fold kind x [] valid all = (valid, omega (arith, ints), tt, ap (λ b. b || false) (height_itself x))
min_fold kind x (v ∷ vs) valid all = go (min_is x v) (min_fold kind x vs valid all.1) (min_fold kind v vs all.0 all.1)
  where
    go : ((int_min x v ≡ x) × (x ≤ℤ v)) ⊎ ((int_min x v ≡ v) × (v ≤ℤ x)) → Least kind (fold int_min x vs) x vs → Least kind (fold int_min v vs) v vs → Least kind (fold int_min (int_min x v) vs) x (v ∷ vs)
    go (inl p) a b = subst (λ m. Least kind (fold int_min m vs) x (v ∷ vs)) (sym p.0) (let q = p.1 in let r = a.1 in (a.0, r, (omega (arith, ints), a.2), or_later (is_zero (height (fold int_min x vs) x)) (is_zero (height (fold int_min x vs) v)) (list_any is_zero (map (height (fold int_min x vs)) vs)) a.3))
    go (inr p) a b = subst (λ m. Least kind (fold int_min m vs) x (v ∷ vs)) (sym p.0) (let q = p.1 in let r = b.1 in (b.0, omega (arith, ints), (r, b.2), or_true (is_zero (height (fold int_min v vs) x)) b.3))

raised_back : (low v : ℤ) → low ≤ℤ v → low +ℤ pos (height low v) ≡ v
raised_back low v le = omega (arith, ints)

height_below : (low v : ℤ) → FitsSigned w64 low → FitsSigned w64 v → height low v < 2 ^ 64
height_below low v p q = omega (arith, ints)

all_raised : (low : ℤ) (vs : List ℤ) → NotBelow low vs → map (λ n. low +ℤ pos n) (map (height low) vs) ≡ vs
all_raised low [] above = refl
all_raised low (v ∷ vs) above = rw (raised_back low v above.0, all_raised low vs above.1) refl

within : (kind : Kind) (low v : ℤ) → low ≤ℤ v → IsValue kind v → is_within kind low (height low v) ≡ true
within kind low v le valid = let e = raised_back low v le in let t = top_le kind v valid in rw e (grind (arith, ints))

all_within : (kind : Kind) (low : ℤ) (vs : List ℤ) → NotBelow low vs → AllByRecursion (IsValue kind) vs → list_all (is_within kind low) (map (height low) vs) ≡ true
all_within kind low [] above valid = refl
all_within kind low (v ∷ vs) above valid = rw (within kind low v above.0 valid.0) (all_within kind low vs above.1 valid.1)

pub fits_all : (w : ℕ) (ns : List ℕ) → ((k : ℕ) → k < length ns → get_or ns k 0 < 2 ^ w) → Fit w ns
fits_all w [] h = tt
fits_all w (n ∷ ns) h = (h 0 (omega arith), fits_all w ns (λ k lt. h (suc k) (omega arith)))

greatest_below : (low : ℤ) (vs : List ℤ) (m : ℕ) → FitsSigned w64 low → AllByRecursion (FitsSigned w64) vs → m < 2 ^ 64 → fold max m (map (height low) vs) < 2 ^ 64
greatest_below low [] m p q lt = lt
greatest_below low (v ∷ vs) m p q lt = let h = height_below low v p q.0 in greatest_below low vs (max m (height low v)) p q.1 (omega arith)

all_fit : (kind : Kind) (vs : List ℤ) → AllByRecursion (IsValue kind) vs → AllByRecursion (FitsSigned w64) vs
all_fit kind [] h = tt
all_fit kind (v ∷ vs) h = (fits_of kind v h.0, all_fit kind vs h.1)

byte_again : (end w : ℕ) (behind : List ℕ) → number_at w8 end (w ∷ behind) ≡ Ok (w, behind)
byte_again end w behind = let t : ltb (suc (length behind)) 1 ≡ false = le-ltb (suc (length behind)) 1 (omega arith) in rw t refl

not_zero : (n : ℕ) → (suc n == 0) ≡ false
not_zero n = grind (arith, nat_tests)

frame_again : (kind : Kind) (x : ℤ) (xs : List ℤ) → AllByRecursion (IsValue kind) (x ∷ xs) → (end : ℕ) (rest : List ℕ) → frame_at kind end (length (x ∷ xs)) (frame_body kind (x ∷ xs) ++ rest) ≡ Ok (x ∷ xs, rest)
unfolding frame_at
frame_again kind x xs valid end rest =
    let vs : List ℤ = x ∷ xs in
    let low : ℤ = least_of vs in
    let ns : List ℕ = map (height low) vs in
    let w : ℕ = width_of (greatest_of ns) in
    let least = min_fold kind x xs valid.0 valid.1 in
    let above : NotBelow low vs = (least.1, least.2) in
    let small : greatest_of ns < 2 ^ 64 = greatest_below low vs 0 (fits_of kind low least.0) (all_fit kind vs valid) (omega arith) in
    let fit : Fit w ns = fits_all w ns (λ k lt. let h = at_most_greatest ns 0 k 0 lt in let g = width_holds (greatest_of ns) small in omega arith) in
    let grouped : frame_body kind vs ++ rest ≡ value_bytes kind low ++ (w ∷ (packed w ns ++ rest)) = append_assoc (value_bytes kind low) (w ∷ packed w ns) rest in
    let frame : is_frame kind low w ns ≡ true = all_three (list_any is_zero ns) (width_of (greatest_of ns) == w) (list_all (is_within kind low) ns) least.3 (eq-eqb w w refl) (all_within kind low vs above valid) in
    ap (frame_at kind end (length vs)) grouped
    ∙ frame_parts kind end (length vs) low w ns (packed w ns ++ rest) rest (value_bytes kind low ++ (w ∷ (packed w ns ++ rest))) (value_again kind low least.0 end (w ∷ (packed w ns ++ rest))) (packed_again end w (length vs) ns rest fit (length-map vs (height low))) frame
    ∙ ap (λ t. Ok (t, rest)) (all_raised low vs above)
  where
    all_three : (a b c : Bool) → a ≡ true → b ≡ true → c ≡ true → ((a && b) && c) ≡ true
    all_three a b c e f g = rw (e, f, g) refl

    frame_parts : (kind : Kind) (end count : ℕ) (low : ℤ) (w : ℕ) (ns behind rest bytes : List ℕ) → value_at kind end bytes ≡ Ok (low, w ∷ behind) → packed_at end w count behind ≡ Ok (ns, rest) → is_frame kind low w ns ≡ true
        → frame_at kind end count bytes ≡ Ok (map (λ n. low +ℤ pos n) ns, rest)
    frame_parts kind end count low w ns behind rest bytes e f g =
        frame_read kind end count bytes low (w ∷ behind) w behind ns rest e (byte_again end w behind) f ∙ ap (λ b. checked b (end - length behind) (map (λ n. low +ℤ pos n) ns, rest)) g

-- ---- bodies and columns

body_again : (kind : Kind) (vs : List ℤ) (e : Encoding) → AllByRecursion (IsValue kind) vs → length vs < 2 ^ 32 → (vs ≡ [] → e ≡ Frame → ⊥) → (end : ℕ) → body_at kind e end (length vs) (body kind vs e ++ []) ≡ Ok (vs, [])
body_again kind vs Plain valid few framed end = values_again (value_bytes kind) (value_at kind) int_cmp (IsValue kind) (value_again kind) vs valid end []
body_again kind [] Frame valid few framed end = absurd (framed refl refl)
body_again kind (x ∷ xs) Frame valid few framed end = frame_again kind x xs valid end []
body_again kind vs Run valid few framed end = run_values_again (value_bytes kind) (value_at kind) int_cmp (IsValue kind) (value_again kind) int_cmp_total exact_signed vs valid few end []
body_again kind vs Dictionary valid few framed end = dictionary_values_again (value_bytes kind) (value_at kind) int_cmp (IsValue kind) (value_again kind) int_cmp_total exact_signed vs valid few end []

no_frame : (kind : Kind) (vs : List ℤ) → vs ≡ [] → encoding_of kind vs ≡ Frame → ⊥
unfolding encoding_of
no_frame kind vs none e =
    two (ltb (length (body kind [] Run)) (length (body kind [] Plain))) (ltb (length (body kind [] Dictionary)) (length (body kind [] Run))) (ltb (length (body kind [] Dictionary)) (length (body kind [] Plain)))
    (ap (encoding_of kind) (sym none) ∙ e)
  where
    two : (a b c : Bool) → cond a (cond b Dictionary Run) (cond c Dictionary Plain) ≡ Frame → ⊥
    two true true c h = absurd cc
    two true false c h = absurd cc
    two false b true h = absurd cc
    two false b false h = absurd cc

encoding_again : (e : Encoding) → encoding_at (code e) ≡ Ok e
encoding_again Plain = refl
encoding_again Frame = refl
encoding_again Run = refl
encoding_again Dictionary = refl

whole_again : (kind : Kind) (vs : List ℤ) (e : Encoding) → AllByRecursion (IsValue kind) vs → length vs < 2 ^ 32 → (vs ≡ [] → e ≡ Frame → ⊥) → (end : ℕ) → whole_body kind e end (length vs) (body kind vs e) ≡ Ok vs
unfolding whole_body
whole_again kind vs e valid few framed end =
    let read : body_at kind e end (length vs) (body kind vs e) ≡ Ok (vs, []) = ap (body_at kind e end (length vs)) (sym (append-nil (body kind vs e))) ∙ body_again kind vs e valid few framed end in
    rw read refl

is_filled : (vs : List ℤ) (e : Encoding) → (vs ≡ [] → e ≡ Frame → ⊥) → is_empty_frame e (length vs) ≡ false
is_filled vs Plain framed = refl
is_filled [] Frame framed = absurd (framed refl refl)
is_filled (x ∷ xs) Frame framed = not_zero (length xs)
is_filled vs Run framed = refl
is_filled vs Dictionary framed = refl

values_in_again : (kind : Kind) (vs : List ℤ) → AllByRecursion (IsValue kind) vs → length vs < 2 ^ 32 → (end : ℕ) → values_in kind (encoding_of kind vs) end (length vs) (body kind vs (encoding_of kind vs)) ≡ Ok vs
unfolding values_in
values_in_again kind vs valid few end =
    let e : Encoding = encoding_of kind vs in
    let filled : is_empty_frame e (length vs) ≡ false = is_filled vs e (no_frame kind vs) in
    rw (filled, whole_again kind vs e valid few (no_frame kind vs) end, eq-eqb (code e) (code e) refl) refl

pub rows_again : (kind : Kind) (rows : List (Option ℤ)) → AllByRecursion (IsValue kind) (present rows) → length rows < 2 ^ 32 → rows_of kind (length rows) (column_of kind rows) ≡ Ok rows
unfolding rows_of column_of
rows_again kind rows valid few =
    let vs : List ℤ = present rows in
    let e : Encoding = encoding_of kind vs in
    let le = present_le rows in
    rw (encoding_again e, flags_again rows, present_count_again rows, values_in_again kind vs valid (omega arith) (length (bitmap_of rows) + length (body kind vs e)), spread_again rows) refl
