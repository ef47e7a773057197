-- What the texts of names, numbers, timestamps and quoted texts are.
use Rattle.std.proofs.Common.{◌≡◌, ℕ, suc, ◌+◌, ◌-◌, ◌*◌, ◌^◌, ◌<◌, ◌≤◌, Bool, true, false, ◌==◌, nat_lt, nat_le, if◌then◌else◌, ◌⊎◌, inl, inr, List, [], ◌∷◌, length, fold, Some, refl, sym, ap, ◌∙◌, subst, arith, eqb-true, ltb-true, leb-true, mul-le-mul_right, mul_assoc, pow-suc, bytes_eq, is_some, ◌++◌}
use Rattle.std.specs.Prelude.{ℤ, ◌==◌, ◌&&◌}
use Rattle.std.specs.List.{AllByRecursion, list_all, list_any}
use Rattle.std.specs.Char.{is_ascii_digit, to_ascii_uppercase}
use Rattle.std.proofs.lemmas.Bool.{and_parts}
use Rattle.std.proofs.lemmas.Bool.Decides.{nat_tests}
use Rattle.std.proofs.Math.Nat.{pow-le-pow_right}
use Rattle.std.proofs.lemmas.Int.{ints}
use Rattle.std.proofs.lemmas.List.Elements.{recursion_from_All}
use Rattle.std.proofs.lemmas.Str.Ascii.{uppercase-uppercase}
use Rattle.tt_lex.specs.Lexis.{Word, Number, Quoted, IsPiece, is_word_start, is_word_part}
use Rattle.tt_lex.proofs.OneWay.{any_bytes}
use Rattle.tt_value.specs.calendar.Calendar.{milliseconds}
use Rattle.tt_value.specs.calendar.Reading.{digits_value, day_of, timestamp_of}
use Rattle.tt_value.proofs.calendar.Timestamps.{IsReadMoment, timestamp_of-read}
use Rattle.tt_sql.specs.grammar.Grammar.{Lexeme, is_of, nowhere}
use Rattle.tt_sql.proofs.grammar.Fronts.{or_split, and_join, false≢true}
use Rattle.tt_sql.specs.grammar.TokenKinds.{COUNT, NAME, LONG_NAME, SHORT_NUMBER, NUMBER, LEAST_NUMBER, LARGE_NUMBER, DATE_TEXT, TIME_TEXT, UNIT_TEXT, NAME_TEXT, OTHER_TEXT, upper, place_in, reserved_words, other_words, is_name, is_number, is_negative, is_quoted, is_word, unit_words, word_kind, number_kind, text_kind, sign_kind}
use Rattle.tt_sql.specs.grammar.Combinators.{is_unit_text}
use Rattle.tt_sql.specs.trees.Leaves.{IsMoment, IsNameText}
use Rattle.tt_sql.specs.grammar.Lexemes.{IsLexeme}
use Rattle.tt_sql.proofs.grammar.Lexemes.{only, of_lexeme, word_below, number_below, sign_above}

-- ---- kinds

abbrev number_by : Bool → Bool → Bool → ℕ
number_by a b c = if a then SHORT_NUMBER else (if b then NUMBER else (if c then LEAST_NUMBER else LARGE_NUMBER))

number_from : (a b c : Bool) → SHORT_NUMBER ≤ number_by a b c
number_from true b c = omega arith
number_from false true c = omega arith
number_from false false true = omega arith
number_from false false false = omega arith

number_above : (digits : List ℕ) → NAME < number_kind digits
unfolding number_kind
number_above digits = omega (arith, number_from (nat_le (length digits) 9) (nat_lt (digits_value digits) (2 ^ 63)) (digits_value digits == 2 ^ 63))

text_from : (a b c d : Bool) → DATE_TEXT ≤ (if a then DATE_TEXT else (if b then TIME_TEXT else (if c then UNIT_TEXT else (if d then NAME_TEXT else OTHER_TEXT))))
text_from true b c d = omega arith
text_from false true c d = omega arith
text_from false false true d = omega arith
text_from false false false true = omega arith
text_from false false false false = omega arith

text_above : (text : List ℕ) → DATE_TEXT ≤ text_kind text
unfolding text_kind
text_above text = text_from _ _ _ _

word_from : (a b : Bool) (n : ℕ) → (a ≡ true → n < NAME) → (if a then n else (if b then NAME else LONG_NAME)) ≤ LONG_NAME
word_from true b n less = omega (arith, less refl)
word_from false true n less = omega arith
word_from false false n less = omega arith

-- ---- names

name_below : (k : ℕ) → is_of NAME is_name k ≡ true → k ≤ NAME
name_below k e = by_case (or_split (k == NAME) (is_name k) e)
  where
    by_case : ((k == NAME) ≡ true) ⊎ (is_name k ≡ true) → k ≤ NAME
    by_case (inl f) = omega (arith, eqb-true k NAME f)
    by_case (inr f) = leb-true k NAME (and_parts (nat_le COUNT k) (nat_le k NAME) f).1

name_known : (k : ℕ) → is_of NAME is_name k ≡ true → is_name k ≡ true
name_known k e = by_case (or_split (k == NAME) (is_name k) e)
  where
    by_case : ((k == NAME) ≡ true) ⊎ (is_name k ≡ true) → is_name k ≡ true
    by_case (inl f) = subst (λ (i : ℕ). is_name i ≡ true) (sym (eqb-true k NAME f)) refl
    by_case (inr f) = f

start_upper : (b : ℕ) → is_word_start b ≡ true → is_word_start (to_ascii_uppercase b) ≡ true
start_upper b e = grind (arith, nat_tests, e)

part_upper : (b : ℕ) → is_word_part b ≡ true → is_word_part (to_ascii_uppercase b) ≡ true
part_upper b e = grind (arith, nat_tests, e)

parts_upper : (bytes : List ℕ) → list_all is_word_part bytes ≡ true → list_all is_word_part (upper bytes) ≡ true
parts_upper [] e = refl
parts_upper (b ∷ bytes) e = let both = and_parts (is_word_part b) (list_all is_word_part bytes) e in and_join (is_word_part (to_ascii_uppercase b)) (list_all is_word_part (upper bytes)) (part_upper b both.0) (parts_upper bytes both.1)

word_upper : (bytes : List ℕ) → IsPiece (Word bytes) → is_word (upper bytes) ≡ true
word_upper [] is = absurd is
word_upper (b ∷ bytes) is = and_join (is_word_start (to_ascii_uppercase b)) (list_all is_word_part (upper bytes)) (start_upper b is.0) (parts_upper bytes is.1)

upper_twice : (bytes : List ℕ) → upper (upper bytes) ≡ upper bytes
upper_twice [] = refl
upper_twice (b ∷ bytes) = ap (λ (x : ℕ). x ∷ upper (upper bytes)) (uppercase-uppercase b) ∙ ap (λ (x : List ℕ). to_ascii_uppercase b ∷ x) (upper_twice bytes)

abbrev IsNamed : Lexeme → Type 0
IsNamed t = is_of NAME is_name t.kind ≡ true → IsNameText t.text

-- a name is a word in upper case that may be a name
pub has_name : (t : Lexeme) → IsLexeme t → is_of NAME is_name t.kind ≡ true → IsNameText t.text
has_name t is e = of_lexeme IsNamed (record {
  words = λ bytes place right f. record { word = word_upper bytes right; high = upper_twice bytes; free = name_known (word_kind (upper bytes)) f };
  numbers = λ bytes place right f. absurd (omega (arith, name_below (number_kind bytes) f, number_above bytes));
  texts = λ text place right f. absurd (omega (arith, name_below (text_kind text) f, text_above text));
  signs = λ bytes place f. absurd (omega (arith, name_below (sign_kind bytes) f, sign_above bytes));
}) t is e

-- ---- numbers

digit_most : (d : ℕ) → is_ascii_digit d ≡ true → d - 48 ≤ 9
digit_most d e = grind (arith, nat_tests, e)

abbrev read_on : ℕ → List ℕ → ℕ
read_on n digits = fold (λ value digit. 10 * value + (digit - 48)) n digits

read_below : (n : ℕ) (digits : List ℕ) → list_all is_ascii_digit digits ≡ true → suc (read_on n digits) ≤ suc n * 10 ^ length digits
read_below n [] all = omega arith
read_below n (d ∷ digits) all =
    let both = and_parts (is_ascii_digit d) (list_all is_ascii_digit digits) all in
    let small = digit_most d both.0 in
    let p = 10 ^ length digits in
    let later = read_below (10 * n + (d - 48)) digits both.1 in
    let more : suc (10 * n + (d - 48)) * p ≤ (10 * suc n) * p = mul-le-mul_right p (omega (arith, small)) in
    let left : (10 * suc n) * p ≡ 10 * (suc n * p) = mul_assoc 10 (suc n) p in
    let right : suc n * (p * 10) ≡ (suc n * p) * 10 = sym (mul_assoc (suc n) p 10) in
    let power : suc n * 10 ^ suc (length digits) ≡ suc n * (p * 10) = ap (λ (x : ℕ). suc n * x) (pow-suc 10 (length digits)) in
    omega (arith, later, more, left, right, power)

are_digits : (digits : List ℕ) → IsPiece (Number digits) → list_all is_ascii_digit digits ≡ true
are_digits [] is = absurd is
are_digits (b ∷ bytes) is = and_join (is_ascii_digit b) (list_all is_ascii_digit bytes) is.0 is.1

digits_below : (digits : List ℕ) → IsPiece (Number digits) → length digits ≤ 9 → digits_value digits < 10 ^ 9
digits_below digits is short = omega (arith, read_below 0 digits (are_digits digits is), pow-le-pow_right {n = 10} (omega arith) short)

-- the kind of a number, by three tests
short_is : (a b c : Bool) → number_by a b c ≡ SHORT_NUMBER → a ≡ true
short_is true b c e = refl
short_is false true c e = absurd (omega (arith, e))
short_is false false true e = absurd (omega (arith, e))
short_is false false false e = absurd (omega (arith, e))

number_is : (a b c : Bool) → is_number (number_by a b c) ≡ true → (a ≡ true) ⊎ (b ≡ true)
number_is true b c e = inl refl
number_is false true c e = inr refl
number_is false false true e = absurd (false≢true e)
number_is false false false e = absurd (false≢true e)

negative_is : (a b c : Bool) → is_negative (number_by a b c) ≡ true → (a ≡ true) ⊎ ((b ≡ true) ⊎ (c ≡ true))
negative_is true b c e = inl refl
negative_is false true c e = inr (inl refl)
negative_is false false true e = inr (inr refl)
negative_is false false false e = absurd (false≢true e)

short_value : (digits : List ℕ) → IsPiece (Number digits) → number_kind digits ≡ SHORT_NUMBER → digits_value digits < 10 ^ 9
unfolding number_kind
short_value digits is e = digits_below digits is (leb-true (length digits) 9 (short_is (nat_le (length digits) 9) (nat_lt (digits_value digits) (2 ^ 63)) (digits_value digits == 2 ^ 63) e))

number_value : (digits : List ℕ) → IsPiece (Number digits) → is_number (number_kind digits) ≡ true → digits_value digits < 2 ^ 63
unfolding number_kind
number_value digits is e = by_case (number_is (nat_le (length digits) 9) (nat_lt (digits_value digits) (2 ^ 63)) (digits_value digits == 2 ^ 63) e)
  where
    by_case : (nat_le (length digits) 9 ≡ true) ⊎ (nat_lt (digits_value digits) (2 ^ 63) ≡ true) → digits_value digits < 2 ^ 63
    by_case (inl f) = omega (arith, digits_below digits is (leb-true (length digits) 9 f))
    by_case (inr f) = ltb-true (digits_value digits) (2 ^ 63) f

negative_value : (digits : List ℕ) → IsPiece (Number digits) → is_negative (number_kind digits) ≡ true → digits_value digits ≤ 2 ^ 63
unfolding number_kind
negative_value digits is e = by_case (negative_is (nat_le (length digits) 9) (nat_lt (digits_value digits) (2 ^ 63)) (digits_value digits == 2 ^ 63) e)
  where
    by_case : (nat_le (length digits) 9 ≡ true) ⊎ ((nat_lt (digits_value digits) (2 ^ 63) ≡ true) ⊎ ((digits_value digits == 2 ^ 63) ≡ true)) → digits_value digits ≤ 2 ^ 63
    by_case (inl f) = omega (arith, digits_below digits is (leb-true (length digits) 9 f))
    by_case (inr (inl f)) = omega (arith, ltb-true (digits_value digits) (2 ^ 63) f)
    by_case (inr (inr f)) = omega (arith, eqb-true (digits_value digits) (2 ^ 63) f)

-- numbers stand between words and texts
abbrev InNumbers : ℕ → Type 0
InNumbers k = (SHORT_NUMBER ≤ k) × (k ≤ LEAST_NUMBER)

number_between : (k : ℕ) → is_of SHORT_NUMBER is_number k ≡ true → InNumbers k
number_between k e = by_case (or_split (k == SHORT_NUMBER) (is_number k) e)
  where
    second_of : ((k == SHORT_NUMBER) ≡ true) ⊎ ((k == NUMBER) ≡ true) → InNumbers k
    second_of (inl f) = (omega (arith, eqb-true k SHORT_NUMBER f), omega (arith, eqb-true k SHORT_NUMBER f))
    second_of (inr f) = (omega (arith, eqb-true k NUMBER f), omega (arith, eqb-true k NUMBER f))

    by_case : ((k == SHORT_NUMBER) ≡ true) ⊎ (is_number k ≡ true) → InNumbers k
    by_case (inl f) = second_of (inl f)
    by_case (inr f) = second_of (or_split (k == SHORT_NUMBER) (k == NUMBER) f)

number_of_kinds : (k : ℕ) → is_of SHORT_NUMBER is_number k ≡ true → is_number k ≡ true
number_of_kinds k e = by_case (or_split (k == SHORT_NUMBER) (is_number k) e)
  where
    by_case : ((k == SHORT_NUMBER) ≡ true) ⊎ (is_number k ≡ true) → is_number k ≡ true
    by_case (inl f) = subst (λ (i : ℕ). is_number i ≡ true) (sym (eqb-true k SHORT_NUMBER f)) refl
    by_case (inr f) = f

negative_of_kinds : (k : ℕ) → is_of SHORT_NUMBER is_negative k ≡ true → is_negative k ≡ true
negative_of_kinds k e = by_case (or_split (k == SHORT_NUMBER) (is_negative k) e)
  where
    by_case : ((k == SHORT_NUMBER) ≡ true) ⊎ (is_negative k ≡ true) → is_negative k ≡ true
    by_case (inl f) = subst (λ (i : ℕ). is_negative i ≡ true) (sym (eqb-true k SHORT_NUMBER f)) refl
    by_case (inr f) = f

negative_between : (k : ℕ) → is_of SHORT_NUMBER is_negative k ≡ true → InNumbers k
negative_between k e = let both = and_parts (nat_le SHORT_NUMBER k) (nat_le k LEAST_NUMBER) (negative_of_kinds k e) in (leb-true SHORT_NUMBER k both.0, leb-true k LEAST_NUMBER both.1)

word_kinds : (word : List ℕ) → word_kind word ≤ LONG_NAME
unfolding word_kind
word_kinds word = word_from (nat_lt (place_in (reserved_words ++ other_words) word) NAME) (nat_le (length word) 64) (place_in (reserved_words ++ other_words) word) (λ e. ltb-true (place_in (reserved_words ++ other_words) word) NAME e)

-- a fact of the numbers alone
of_number : (P : Lexeme → Type 0) (test : ℕ → Bool) → ((k : ℕ) → test k ≡ true → InNumbers k) → ((digits : List ℕ) (place : ℕ) → IsPiece (Number digits) → test (number_kind digits) ≡ true → P (record { kind = number_kind digits; place = place; text = digits })) → (t : Lexeme) → IsLexeme t → test t.kind ≡ true → P t
of_number P test within h = of_lexeme (λ x. test x.kind ≡ true → P x) (record {
  words = λ bytes place right f. absurd (omega (arith, (within (word_kind (upper bytes)) f).0, word_kinds (upper bytes)));
  numbers = λ bytes place right f. h bytes place right f;
  texts = λ text place right f. absurd (omega (arith, (within (text_kind text) f).1, text_above text));
  signs = λ bytes place f. absurd (omega (arith, (within (sign_kind bytes) f).1, sign_above bytes));
})

pub has_number : (t : Lexeme) → IsLexeme t → is_of SHORT_NUMBER is_number t.kind ≡ true → digits_value t.text < 2 ^ 63
has_number = of_number (λ x. digits_value x.text < 2 ^ 63) (is_of SHORT_NUMBER is_number) number_between (λ digits place right f. number_value digits right (number_of_kinds (number_kind digits) f))

pub has_negative : (t : Lexeme) → IsLexeme t → is_of SHORT_NUMBER is_negative t.kind ≡ true → digits_value t.text ≤ 2 ^ 63
has_negative = of_number (λ x. digits_value x.text ≤ 2 ^ 63) (is_of SHORT_NUMBER is_negative) negative_between (λ digits place right f. negative_value digits right (negative_of_kinds (number_kind digits) f))

pub has_short : (t : Lexeme) → IsLexeme t → is_of SHORT_NUMBER nowhere t.kind ≡ true → digits_value t.text < 10 ^ 9
has_short = of_number (λ x. digits_value x.text < 10 ^ 9) (is_of SHORT_NUMBER nowhere) (λ k e. let is = only SHORT_NUMBER k e in (omega (arith, is), omega (arith, is))) (λ digits place right f. short_value digits right (only SHORT_NUMBER (number_kind digits) f))

-- ---- moments

milliseconds_most : (ds : List ℕ) → AllByRecursion (λ d. d ≤ 9) ds → milliseconds ds ≤ 999
milliseconds_most [] each = omega arith
milliseconds_most (a ∷ []) each = omega (arith, each.0)
milliseconds_most (a ∷ b ∷ []) each = omega (arith, each.0, each.1.0)
milliseconds_most (a ∷ b ∷ c ∷ ds) each = omega (arith, each.0, each.1.0, each.1.1.0)

moment_within : (text : List ℕ) (n : ℤ) → IsReadMoment text n → IsMoment n
moment_within text n is =
    let fraction = milliseconds_most is.timestamp.fraction (recursion_from_All (λ d. d ≤ 9) is.timestamp.fraction is.right.fraction.1) in
    (omega (arith, ints, is.moment_is, is.right.day.0), omega (arith, ints, is.moment_is, is.right.day.1, is.right.clock.hour, is.right.clock.minute, is.right.clock.second, fraction))

-- a timestamp is of the years 1 to 9999
pub moment_known : (text : List ℕ) (n : ℤ) → timestamp_of text ≡ Some n → IsMoment n
moment_known text n e = moment_within text n (timestamp_of-read text n e)

-- ---- quoted texts

quoted_above : (k : ℕ) → is_of OTHER_TEXT is_quoted k ≡ true → (DATE_TEXT ≤ k) × (k ≤ OTHER_TEXT)
quoted_above k e = by_case (or_split (k == OTHER_TEXT) (is_quoted k) e)
  where
    by_case : ((k == OTHER_TEXT) ≡ true) ⊎ (is_quoted k ≡ true) → (DATE_TEXT ≤ k) × (k ≤ OTHER_TEXT)
    by_case (inl f) = (omega (arith, eqb-true k OTHER_TEXT f), omega (arith, eqb-true k OTHER_TEXT f))
    by_case (inr f) = let both = and_parts (nat_le DATE_TEXT k) (nat_le k OTHER_TEXT) f in (leb-true DATE_TEXT k both.0, leb-true k OTHER_TEXT both.1)

-- a quoted text has bytes that may stand in one
pub has_text : (t : Lexeme) → IsLexeme t → is_of OTHER_TEXT is_quoted t.kind ≡ true → IsPiece (Quoted t.text)
has_text = of_lexeme (λ x. is_of OTHER_TEXT is_quoted x.kind ≡ true → IsPiece (Quoted x.text)) (record {
  words = λ bytes place right f. absurd (omega (arith, (quoted_above (word_kind (upper bytes)) f).0, word_below (upper bytes)));
  numbers = λ bytes place right f. absurd (omega (arith, (quoted_above (number_kind bytes) f).0, number_below bytes));
  texts = λ text place right f. right;
  signs = λ bytes place f. absurd (omega (arith, (quoted_above (sign_kind bytes) f).1, sign_above bytes));
})

-- ---- a name in a quoted text

named_text : (a b c d : Bool) → (if a then DATE_TEXT else (if b then TIME_TEXT else (if c then UNIT_TEXT else (if d then NAME_TEXT else OTHER_TEXT)))) ≡ NAME_TEXT → d ≡ true
named_text true b c d e = absurd (omega (arith, e))
named_text false true c d e = absurd (omega (arith, e))
named_text false false true d e = absurd (omega (arith, e))
named_text false false false true e = refl
named_text false false false false e = absurd (omega (arith, e))

unit_named : (a b c d : Bool) → (if a then DATE_TEXT else (if b then TIME_TEXT else (if c then UNIT_TEXT else (if d then NAME_TEXT else OTHER_TEXT)))) ≡ UNIT_TEXT → c ≡ true
unit_named true b c d e = absurd (omega (arith, e))
unit_named false true c d e = absurd (omega (arith, e))
unit_named false false true d e = refl
unit_named false false false true e = absurd (omega (arith, e))
unit_named false false false false e = absurd (omega (arith, e))

may_name : List ℕ → Bool
may_name word = is_word word && is_name (word_kind word)

name_from : (word : List ℕ) → upper word ≡ word → may_name word ≡ true → IsNameText word
unfolding may_name
name_from word high e = let both = and_parts (is_word word) (is_name (word_kind word)) e in record { word = both.0; high = high; free = both.1 }

as_piece : (text : List ℕ) → is_word text ≡ true → IsPiece (Word text)
as_piece [] e = absurd (false≢true e)
as_piece (b ∷ bytes) e = let both = and_parts (is_word_start b) (list_all is_word_part bytes) e in (both.0, both.1)

text_named : (text : List ℕ) → text_kind text ≡ NAME_TEXT → IsNameText (upper text)
unfolding text_kind
text_named text e =
    let both = and_parts (is_word text) (is_name (word_kind (upper text))) (named_text (is_some (day_of text)) (is_some (timestamp_of text)) (list_any (bytes_eq (upper text)) unit_words) (is_word text && is_name (word_kind (upper text))) e) in
    record { word = word_upper text (as_piece text both.0); high = upper_twice text; free = both.1 }

units_named : list_all may_name unit_words ≡ true
unfolding may_name word_kind
units_named = refl

unit_text_named : (text : List ℕ) → text_kind text ≡ UNIT_TEXT → IsNameText (upper text)
unfolding text_kind
unit_text_named text e =
    let found = unit_named (is_some (day_of text)) (is_some (timestamp_of text)) (list_any (bytes_eq (upper text)) unit_words) (is_word text && is_name (word_kind (upper text))) e in
    name_from (upper text) (upper_twice text) (any_bytes may_name (upper text) unit_words found units_named)

abbrev IsQuotedName : Lexeme → Type 0
IsQuotedName t = is_of NAME_TEXT is_unit_text t.kind ≡ true → IsNameText (upper t.text)

name_text_kind : (k : ℕ) → is_of NAME_TEXT is_unit_text k ≡ true → (k ≡ NAME_TEXT) ⊎ (k ≡ UNIT_TEXT)
name_text_kind k e = by_case (or_split (k == NAME_TEXT) (is_unit_text k) e)
  where
    by_case : ((k == NAME_TEXT) ≡ true) ⊎ (is_unit_text k ≡ true) → (k ≡ NAME_TEXT) ⊎ (k ≡ UNIT_TEXT)
    by_case (inl f) = inl (eqb-true k NAME_TEXT f)
    by_case (inr f) = inr (eqb-true k UNIT_TEXT f)

name_text_quoted : (k : ℕ) → is_of NAME_TEXT is_unit_text k ≡ true → (DATE_TEXT ≤ k) × (k ≤ OTHER_TEXT)
name_text_quoted k e = by_case (name_text_kind k e)
  where
    by_case : (k ≡ NAME_TEXT) ⊎ (k ≡ UNIT_TEXT) → (DATE_TEXT ≤ k) × (k ≤ OTHER_TEXT)
    by_case (inl f) = (omega (arith, f), omega (arith, f))
    by_case (inr f) = (omega (arith, f), omega (arith, f))

-- a quoted name is a name in upper case
pub has_quoted_name : (t : Lexeme) → IsLexeme t → is_of NAME_TEXT is_unit_text t.kind ≡ true → IsNameText (upper t.text)
has_quoted_name = of_lexeme IsQuotedName (record {
  words = λ bytes place right f. absurd (omega (arith, (name_text_quoted (word_kind (upper bytes)) f).0, word_below (upper bytes)));
  numbers = λ bytes place right f. absurd (omega (arith, (name_text_quoted (number_kind bytes) f).0, number_below bytes));
  texts = λ text place right f. by_case text (name_text_kind (text_kind text) f);
  signs = λ bytes place f. absurd (omega (arith, (name_text_quoted (sign_kind bytes) f).1, sign_above bytes));
})
  where
    by_case : (text : List ℕ) → (text_kind text ≡ NAME_TEXT) ⊎ (text_kind text ≡ UNIT_TEXT) → IsNameText (upper text)
    by_case text (inl f) = text_named text f
    by_case text (inr f) = unit_text_named text f
