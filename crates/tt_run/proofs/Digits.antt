-- The number of a text of digits, if it is at most 65,536.
use Rattle.std.proofs.Common.{◌≡◌, ℕ, suc, ◌+◌, ◌-◌, ◌*◌, ◌<◌, ◌≤◌, Bool, true, false, ◌&&◌, leb, List, [], ◌∷◌, length, take, drop, drop-cons, get_or, Option, None, refl, sym, ap, ◌∙◌, arith}
use Rattle.std.specs.Prelude.{IfSome, codes, nat_le, if◌then◌else◌}
use Rattle.std.specs.List.{list_all, fold}
use Rattle.std.proofs.lemmas.Bool.{and_parts}
use Rattle.std.proofs.lemmas.Bool.Decides.{nat_tests}
use Rattle.std.proofs.lemmas.List.{take-append-drop}
use Rattle.std.proofs.lemmas.List.Folds.{list_all_at}
use Rattle.std.proofs.lemmas.List.Sums.{fold-append}
use Rattle.tt_script.specs.Bytes.{is_digit}
use Rattle.tt_script.specs.Lines.{only_if, decimal_value}
use Rattle.tt_run.specs.Words.{is_word, is_rows, rows_said, rows_behind, rows_asked}

abbrev pub step : ℕ → ℕ → ℕ
step value digit = 10 * value + (digit - 48)

-- a number does not shrink by more digits
grows : (value : ℕ) (digits : List ℕ) → value ≤ fold step value digits
grows value [] = omega arith
grows value (digit ∷ digits) = let more = grows (step value digit) digits in omega arith

-- the number so far, and the digits that are left
rest_of_digits : (digits : List ℕ) (i : ℕ) → fold step 0 digits ≡ fold step (fold step 0 (take i digits)) (drop i digits)
rest_of_digits digits i = ap (fold step 0) (sym (take-append-drop i digits)) ∙ fold-append step 0 (take i digits) (drop i digits)

-- a number that is too large before its last digit is too large
too_large : (digits : List ℕ) (i : ℕ) → i < length digits → 6553 < fold step 0 (take i digits) → leb (fold step 0 digits) 65536 ≡ false
too_large digits i within large =
    let front = fold step 0 (take i digits) in
    let more = grows (step front (get_or digits i 0)) (drop (suc i) digits) in
    let all : fold step 0 digits ≡ fold step (step front (get_or digits i 0)) (drop (suc i) digits) = rest_of_digits digits i ∙ ap (fold step front) (drop-cons digits i 0 within) in
    let big : 65536 < fold step 0 digits = omega arith in
    grind (arith, nat_tests)

abbrev pub small_number : List ℕ → Option ℕ
small_number digits = only_if (list_all is_digit digits && leb (fold step 0 digits) 65536) (fold step 0 digits)

pub no_digit : (digits : List ℕ) (i : ℕ) → i < length digits → is_digit (get_or digits i 0) ≡ false → None ≡ small_number digits
no_digit digits i within other = rw (list_all_at is_digit digits i 0 within other) refl

pub no_small_number : (digits : List ℕ) (i : ℕ) → i < length digits → 6553 < fold step 0 (take i digits) → None ≡ small_number digits
no_small_number digits i within large = rw (too_large digits i within large) (by (list_all is_digit digits))
  where
    by : (b : Bool) → None ≡ only_if (b && false) (fold step 0 digits)
    by true = refl
    by false = refl

-- ---- the number is within its limits

abbrev pub IsWithin : Option ℕ → Type 0
IsWithin o = IfSome o (λ rows. (1 ≤ rows) × (rows ≤ 65536))

kept_within : (test : Bool) (n : ℕ) → (test ≡ true → (1 ≤ n) × (n ≤ 65536)) → IsWithin (only_if test n)
kept_within true n within = within refl
kept_within false n within = tt

either_within : (test : Bool) (o : Option ℕ) → IsWithin o → IsWithin (if test then o else None)
either_within true o within = within
either_within false o within = tt

at_least : (n : ℕ) → nat_le 1 n ≡ true → 1 ≤ n
at_least n e = grind (arith, nat_tests)

at_most : (n : ℕ) → nat_le n 65536 ≡ true → n ≤ 65536
at_most n e = grind (arith, nat_tests)

said_within : (digits : List ℕ) → IsWithin (rows_said digits)
unfolding rows_said
said_within digits =
    kept_within (is_rows digits) (decimal_value digits)
    (λ test.
    let last = and_parts (nat_le 1 (length digits) && nat_le (length digits) 5 && list_all is_digit digits && nat_le 1 (decimal_value digits)) (nat_le (decimal_value digits) 65536) test in
    let first = and_parts (nat_le 1 (length digits) && nat_le (length digits) 5 && list_all is_digit digits) (nat_le 1 (decimal_value digits)) last.0 in
    (at_least (decimal_value digits) first.1, at_most (decimal_value digits) last.1))

behind_within : (word : List ℕ) (numbers : List (List ℕ)) → IsWithin (rows_behind word numbers)
behind_within word [] = either_within (is_word (codes "--partition-rows=") (take 17 word)) (rows_said (drop 17 word)) (said_within (drop 17 word))
behind_within word (number ∷ []) = either_within (is_word (codes "--partition-rows") word) (rows_said number) (said_within number)
behind_within word (number ∷ other ∷ words) = tt

pub asked_within : (words : List (List ℕ)) → IsWithin (rows_asked words)
asked_within [] = (omega arith, omega arith)
asked_within (word ∷ numbers) = behind_within word numbers
