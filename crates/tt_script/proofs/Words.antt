-- The number and the name on a directive's line.
use Rattle.std.proofs.Common.{◌≡◌, ℕ, suc, ◌+◌, ◌-◌, ◌*◌, ◌<◌, ◌≤◌, Bool, true, false, ◌&&◌, leb, List, [], ◌∷◌, length, take, drop, drop-cons, get_or, Option, None, refl, sym, ap, ◌∙◌, arith}
use Rattle.std.specs.List.{All, AllByRecursion, list_all, fold}
use Rattle.std.proofs.lemmas.Bool.{and_parts}
use Rattle.std.proofs.lemmas.Bool.Decides.{nat_tests}
use Rattle.std.proofs.lemmas.List.{take-append-drop}
use Rattle.std.proofs.lemmas.List.Elements.{All-from_recursion}
use Rattle.std.proofs.lemmas.List.Folds.{list_all_at}
use Rattle.std.proofs.lemmas.List.Sums.{fold-append}
use Rattle.tt_value.specs.values.Texts.{IsPrintableAscii}
use Rattle.tt_script.specs.Bytes.{is_lower, is_digit, is_session_byte}
use Rattle.tt_script.specs.Lines.{only_if, is_session_name}

-- ---- numbers

abbrev pub step : ℕ → ℕ → ℕ
step value digit = 10 * value + (digit - 48)

-- a number does not shrink by more digits
grows : (value : ℕ) (digits : List ℕ) → value ≤ fold step value digits
grows value [] = omega arith
grows value (digit ∷ digits) = let more = grows (step value digit) digits in omega arith

-- the number so far, and the digits that are left
rest_of_digits : (digits : List ℕ) (i : ℕ) → fold step 0 digits ≡ fold step (fold step 0 (take i digits)) (drop i digits)
rest_of_digits digits i = ap (fold step 0) (sym (take-append-drop i digits)) ∙ fold-append step 0 (take i digits) (drop i digits)

-- a number that is too large before its last digit is too large
too_large : (digits : List ℕ) (i : ℕ) → i < length digits → 25340230079999 < fold step 0 (take i digits) → leb (fold step 0 digits) 253402300799999 ≡ false
too_large digits i within large =
    let front = fold step 0 (take i digits) in
    let more = grows (step front (get_or digits i 0)) (drop (suc i) digits) in
    let all : fold step 0 digits ≡ fold step (step front (get_or digits i 0)) (drop (suc i) digits) = rest_of_digits digits i ∙ ap (fold step front) (drop-cons digits i 0 within) in
    let big : 253402300799999 < fold step 0 digits = omega arith in
    grind (arith, nat_tests)

-- the number of a text of digits, if it is a moment
abbrev pub small_number : List ℕ → Option ℕ
small_number digits = only_if (list_all is_digit digits && leb (fold step 0 digits) 253402300799999) (fold step 0 digits)

pub no_digit : (digits : List ℕ) (i : ℕ) → i < length digits → is_digit (get_or digits i 0) ≡ false → None ≡ small_number digits
no_digit digits i within other = rw (list_all_at is_digit digits i 0 within other) refl

pub no_small_number : (digits : List ℕ) (i : ℕ) → i < length digits → 25340230079999 < fold step 0 (take i digits) → None ≡ small_number digits
no_small_number digits i within large = rw (too_large digits i within large) (by (list_all is_digit digits))
  where
    by : (b : Bool) → None ≡ only_if (b && false) (fold step 0 digits)
    by true = refl
    by false = refl

-- ---- names

printable_byte : (byte : ℕ) → is_session_byte byte ≡ true → IsPrintableAscii byte
printable_byte byte h = (grind (arith, nat_tests), grind (arith, nat_tests))

printable_bytes : (bytes : List ℕ) → list_all is_session_byte bytes ≡ true → AllByRecursion IsPrintableAscii bytes
printable_bytes [] h = tt
printable_bytes (byte ∷ bytes) h =
    let parts = and_parts (is_session_byte byte) (list_all is_session_byte bytes) h in
    (printable_byte byte parts.0, printable_bytes bytes parts.1)

pub printable_name : (name : List ℕ) → is_session_name name ≡ true → All IsPrintableAscii name
unfolding is_session_name
printable_name name h =
    let front = and_parts (is_lower (get_or name 0 0) && list_all is_session_byte name) (leb (length name) 16) h in
    let bytes = and_parts (is_lower (get_or name 0 0)) (list_all is_session_byte name) front.0 in
    All-from_recursion IsPrintableAscii name (printable_bytes name bytes.1)

pub short_name : (name : List ℕ) → is_session_name name ≡ true → length name ≤ 65535
unfolding is_session_name
short_name name h = at_most (and_parts (is_lower (get_or name 0 0) && list_all is_session_byte name) (leb (length name) 16) h).1
  where
    at_most : {n : ℕ} → leb n 16 ≡ true → n ≤ 65535
    at_most e = grind (arith, nat_tests)
