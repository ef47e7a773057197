-- Numbers without a zero in front: what is read is what is written.
use Rattle.std.specs.List.{fold, list_all}
use Rattle.std.specs.Prelude.{Bool, List, None, Some, [], decimal, drop, false, if◌then◌else◌, length, nat_le, nat_lt, not, refl, slice_index, take, true, ℕ, ◌&&◌, ◌*◌, ◌+◌, ◌-◌, ◌<◌, ◌==◌, ◌^◌, ◌∷◌, ◌≡◌, ◌≤◌}
use Rattle.std.proofs.Common.{ap, arith, drop-cons, get_or, leb, subst, suc, sym, zero, ◌∙◌}
use Rattle.std.proofs.lemmas.Bool.{and_parts}
use Rattle.std.proofs.lemmas.Bool.Decides.{nat_tests}
use Rattle.std.proofs.lemmas.Fmt.{decimal-digits_value, decimal_digit, decimal_nonempty, digits_decimal, digits_value-decimal, first_decimal}
use Rattle.std.proofs.lemmas.List.{take-append-drop}
use Rattle.std.proofs.lemmas.List.Folds.{list_all_at}
use Rattle.std.proofs.lemmas.List.Sums.{fold-append}
use Rattle.std.proofs.lemmas.Option.{none-some}
use Rattle.std.proofs.lemmas.Str.Parse.{FoldsDigits, IsDigitsTest, IsNumeralModel, numerals_by_fold}
use Rattle.tt_script.specs.Bytes.{is_digit}
use Rattle.tt_script.specs.Lines.{decimal_value}
use Rattle.tt_plain.proofs.Answers.{only_if_some}
use Rattle.tt_script.specs.Lines.{only_if}
use Rattle.tt_journal_read.specs.steps.Reading.{begins_number, number_up_to, value_up_to}
use Rattle.tt_journal_read.proofs.Fields.{Lacks}

abbrev pub step : ℕ → ℕ → ℕ
step value digit = 10 * value + (digit - 48)

-- ---- the loop over digits

-- a number does not shrink by more digits
grows : (value : ℕ) (digits : List ℕ) → value ≤ fold step value digits
grows value [] = omega arith
grows value (digit ∷ digits) = let more = grows (step value digit) digits in omega arith

-- the number so far, and the digits that are left
rest_of_digits : (digits : List ℕ) (i : ℕ) → fold step 0 digits ≡ fold step (fold step 0 (take i digits)) (drop i digits)
rest_of_digits digits i = ap (fold step 0) (sym (take-append-drop i digits)) ∙ fold-append step 0 (take i digits) (drop i digits)

-- with its next digit the number so far is at most the whole one
next_within : (digits : List ℕ) (i : ℕ) → i < length digits → step (fold step 0 (take i digits)) (get_or digits i 0) ≤ fold step 0 digits
next_within digits i within =
    let front = fold step 0 (take i digits) in
    let more = grows (step front (get_or digits i 0)) (drop (suc i) digits) in
    let all : fold step 0 digits ≡ fold step (step front (get_or digits i 0)) (drop (suc i) digits) = rest_of_digits digits i ∙ ap (fold step front) (drop-cons digits i 0 within) in
    omega arith

pub no_digit : (most : ℕ) (digits : List ℕ) (i : ℕ) → i < length digits → is_digit (get_or digits i 0) ≡ false → None ≡ value_up_to most digits
no_digit most digits i within other = rw (list_all_at is_digit digits i 0 within other) refl

-- a number that is too large by its next digit is too large
pub too_large : (most : ℕ) (digits : List ℕ) (i : ℕ) → i < length digits → most < step (fold step 0 (take i digits)) (get_or digits i 0) → None ≡ value_up_to most digits
too_large most digits i within large =
    let test : leb (fold step 0 digits) most ≡ false = above (omega (arith, next_within digits i within, large)) in
    rw test (by (list_all is_digit digits))
  where
    above : most < fold step 0 digits → leb (fold step 0 digits) most ≡ false
    above h = grind (arith, nat_tests)

    by : (b : Bool) → None ≡ only_if (b && false) (fold step 0 digits)
    by true = refl
    by false = refl

-- ---- what is read is what is written

digits_test : IsDigitsTest (λ ds. list_all is_digit ds ≡ true)
digits_test = record {
  empty = refl;
  parts = λ c cs all. let both = and_parts (is_digit c) (list_all is_digit cs) all in ((low c both.0, high c both.0), both.1);
  more = λ c cs range all. more c cs range all;
}
  where
    low : (c : ℕ) → is_digit c ≡ true → 48 ≤ c
    low c h = grind (arith, nat_tests)

    high : (c : ℕ) → is_digit c ≡ true → c ≤ 57
    high c h = grind (arith, nat_tests)

    digit : (c : ℕ) → 48 ≤ c → c ≤ 57 → is_digit c ≡ true
    digit c a b = grind (arith, nat_tests)

    more : (c : ℕ) (cs : List ℕ) → (48 ≤ c) × (c ≤ 57) → list_all is_digit cs ≡ true → list_all is_digit (c ∷ cs) ≡ true
    more c cs range all = ap (λ (b : Bool). b && list_all is_digit cs) (digit c range.0 range.1) ∙ all

folds : FoldsDigits (fold step)
folds = record { empty = λ n. refl; more = λ n c cs range. ap (λ (m : ℕ). fold step m cs) (omega arith) }

numerals : IsNumeralModel (λ ds. list_all is_digit ds ≡ true) (fold step 0)
numerals = numerals_by_fold (λ ds. list_all is_digit ds ≡ true) digits_test (fold step) folds

-- of all that is written no zero stands in front of another digit
begins : (n : ℕ) → n < 2 ^ 64 → begins_number (decimal n) ≡ true
begins zero small = ap begins_number (decimal_digit 0 (omega arith))
begins (suc n) small =
    test (length (decimal (suc n))) (get_or (decimal (suc n)) 0 0) (decimal_nonempty (suc n) small) (first_decimal (suc n) (omega arith) small)
  where
    test : (count first : ℕ) → 0 < count → 48 < first → (not (count == 0) && not (first == 48 && nat_lt 1 count)) ≡ true
    test count first some above = grind (arith, nat_tests)

pub number_written : (most n : ℕ) → n ≤ most → n < 2 ^ 64 → number_up_to most (decimal n) ≡ Some n
unfolding number_up_to
number_written most n within small =
    let all : list_all is_digit (decimal n) ≡ true = digits_decimal numerals n small in
    let value : decimal_value (decimal n) ≡ n = digits_value-decimal numerals n small in
    rw (begins n small, all, value, below within) refl
  where
    below : n ≤ most → nat_le n most ≡ true
    below h = grind (arith, nat_tests)

pub number_read : (most n : ℕ) (digits : List ℕ) → most < 2 ^ 64 → number_up_to most digits ≡ Some n → (decimal n ≡ digits) × (n ≤ most)
unfolding number_up_to
number_read most n digits wide e = by (begins_number digits) refl e
  where
    at_most : (m : ℕ) → nat_le m most ≡ true → m ≤ most
    at_most m h = grind (arith, nat_tests)

    some : (count first : ℕ) → (not (count == 0) && not (first == 48 && nat_lt 1 count)) ≡ true → 0 < count
    some count first h = grind (arith, nat_tests)

    alone : (count first : ℕ) → (not (count == 0) && not (first == 48 && nat_lt 1 count)) ≡ true → first ≡ 48 → count ≡ 1
    alone count first h is = grind (arith, nat_tests)

    by : (test : Bool) → begins_number digits ≡ test → (if test then value_up_to most digits else None) ≡ Some n → (decimal n ≡ digits) × (n ≤ most)
    by false test f = absurd (none-some n f)
    by true test f =
        let told = only_if_some (list_all is_digit digits && nat_le (decimal_value digits) most) (decimal_value digits) n f in
        let both = and_parts (list_all is_digit digits) (nat_le (decimal_value digits) most) told.0 in
        let within : decimal_value digits ≤ most = at_most (decimal_value digits) both.1 in
        let written : decimal (decimal_value digits) ≡ digits = decimal-digits_value numerals digits both.0 (some (length digits) (slice_index digits 0) test) (alone (length digits) (slice_index digits 0) test) (omega (arith, within, wide)) in
        (subst (λ (m : ℕ). decimal m ≡ digits) told.1 written, subst (λ (m : ℕ). m ≤ most) told.1 within)

pub all_digits : (n : ℕ) → n < 2 ^ 64 → list_all is_digit (decimal n) ≡ true
all_digits n small = digits_decimal numerals n small

-- ---- what digits lack

other_than : (mark : ℕ) (bytes : List ℕ) → ((c : ℕ) → is_digit c ≡ true → (c == mark) ≡ false) → list_all is_digit bytes ≡ true → Lacks mark bytes
other_than mark [] each all = tt
other_than mark (byte ∷ bytes) each all = let both = and_parts (is_digit byte) (list_all is_digit bytes) all in (each byte both.0, other_than mark bytes each both.1)

pub no_blank : (n : ℕ) → n < 2 ^ 64 → Lacks 32 (decimal n)
no_blank n small = other_than 32 (decimal n) (λ c h. other c h) (digits_decimal numerals n small)
  where
    other : (c : ℕ) → is_digit c ≡ true → (c == 32) ≡ false
    other c h = grind (arith, nat_tests)

pub no_colon : (n : ℕ) → n < 2 ^ 64 → Lacks 58 (decimal n)
no_colon n small = other_than 58 (decimal n) (λ c h. other c h) (digits_decimal numerals n small)
  where
    other : (c : ℕ) → is_digit c ≡ true → (c == 58) ≡ false
    other c h = grind (arith, nat_tests)
