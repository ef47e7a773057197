-- The words of a printed statement are tokens of the lexer.
use Rattle.std.proofs.Common.{inl, inr, ◌≡◌, ℕ, ◌+◌, ◌/◌, ◌%◌, ◌^◌, ◌<◌, ◌≤◌, Bool, true, false, ◌||◌, ◌==◌, nat_le, nat_lt, if◌then◌else◌, List, [], ◌∷◌, ◌++◌, length, refl, sym, ap, subst, ◌∙◌, arith, bytes_eq}
use Rattle.std.specs.Prelude.{ℤ}
use Rattle.std.specs.Fmt.{decimal}
use Rattle.std.specs.Str.{all_ascii_digits}
use Rattle.std.specs.List.{list_all}
use Rattle.std.specs.Char.{is_ascii_digit}
use Rattle.std.proofs.lemmas.Bool.{cases_Bool, and_parts, eqb-true, false≢true}
use Rattle.std.proofs.lemmas.Bool.Decides.{nat_tests}
use Rattle.std.proofs.lemmas.Fmt.{decimal_nonempty, digits_decimal}
use Rattle.std.proofs.lemmas.Slice.Eq.{bytes_eq-Decides}
use Rattle.tt_lex.specs.declared.TokenKind.TheVariants as kinds
use Rattle.tt_lex.specs.Lexis.{Word, Number, Quoted, Sign, is_word_start, is_word_part, is_text_byte, is_sign, is_quote, doubled}
use Rattle.tt_value.specs.calendar.Calendar.{IsDay, IsCivil, CivilDate, date_of, date_text, day_text, days_in_month, two_digits, Clock, IsClock, clock_text}
use Rattle.tt_value.proofs.calendar.DayNumbers.{numbered}
use Rattle.tt_value.specs.values.RowText.{quotes_doubled}
use Rattle.tt_sql.specs.grammar.TokenKinds.{NAME, LONG_NAME, reserved_words, other_words, place_in, is_word, is_name, word_kind, undoubled}
use Rattle.tt_print.specs.text.Words.{Words, quoted}
use Rattle.tt_print.specs.again.Tokens.{IsToken, AreTokens}
use Rattle.tt_sql.specs.trees.Leaves.{IsNameText, IsWrittenText}
use Rattle.tt_print.proofs.again.Quoted.{numerals}

pub tokens_both : (v w : Words) → AreTokens v → AreTokens w → AreTokens (v ++ w)
tokens_both [] w first next = next
tokens_both (word ∷ v) w first next = (first.0, tokens_both v w first.1 next)

-- ---- words, signs and numbers

-- a word or a sign of the language, which is one token by itself
abbrev pub is_fixed : List ℕ → Bool
is_fixed word = is_word word || is_sign word

word_token : (word : List ℕ) → is_word word ≡ true → IsToken word
word_token [] is = absurd (false≢true is)
word_token (b ∷ bytes) is =
    let both_are = and_parts (is_word_start b) (list_all is_word_part bytes) is in
    record { piece = Word (b ∷ bytes); right = (both_are.0, both_are.1); text_is = refl; kind = kinds.Word; kind_is = refl }

pub fixed_token : (word : List ℕ) → is_fixed word ≡ true → IsToken word
fixed_token word is = elim (cases_Bool (is_word word)) [
  | inl w ↦ word_token word w
  | inr other ↦ (let sign : is_sign word ≡ true = sym (ap (λ (b : Bool). b || is_sign word) other) ∙ is in record { piece = Sign word; right = sign; text_is = refl; kind = kinds.Sign; kind_is = refl })
]

pub name_token : (text : List ℕ) → IsNameText text → IsToken text
name_token text is = word_token text is.word

digits_are : (digits : List ℕ) → all_ascii_digits digits ≡ true → list_all is_ascii_digit digits ≡ true
digits_are [] all = refl
digits_are (d ∷ digits) all = let both_are = and_parts (is_ascii_digit d) (all_ascii_digits digits) all in rw (both_are.0) (digits_are digits both_are.1)

digits_token : (digits : List ℕ) → 0 < length digits → all_ascii_digits digits ≡ true → IsToken digits
digits_token [] some all = absurd (omega (arith, some))
digits_token (d ∷ digits) some all =
    let both_are = and_parts (is_ascii_digit d) (all_ascii_digits digits) all in
    record { piece = Number (d ∷ digits); right = (both_are.0, digits_are digits both_are.1); text_is = refl; kind = kinds.Number; kind_is = refl }

pub number_token : (n : ℕ) → n < 2 ^ 64 → IsToken (decimal n)
number_token n less = digits_token (decimal n) (decimal_nonempty n less) (digits_decimal numerals n less)

-- ---- quoted texts

doubled_same : (text : List ℕ) → doubled text ≡ quotes_doubled text
doubled_same [] = refl
doubled_same (b ∷ text) = elim (cases_Bool (b == 39)) [
  | inl is ↦ rw is (ap (λ (x : ℕ). x ∷ x ∷ doubled text) (eqb-true b 39 is) ∙ ap (λ (l : List ℕ). 39 ∷ 39 ∷ l) (doubled_same text))
  | inr other ↦ rw other (ap (λ (l : List ℕ). b ∷ l) (doubled_same text))
]

pub quoted_token : (text : List ℕ) → IsWrittenText text → IsToken (quoted text)
quoted_token text is = record { piece = Quoted text; right = is; text_is = ap (λ (l : List ℕ). 39 ∷ (l ++ 39 ∷ [])) (doubled_same text); kind = kinds.Quoted; kind_is = refl }

-- ---- texts without a quote

pub record IsPlain (text : List ℕ) : Type 0 where
  pub read : undoubled false text ≡ text
  pub written : doubled text ≡ text
  pub bytes : list_all is_text_byte text ≡ true

pub nothing_plain : IsPlain []
unfolding undoubled
nothing_plain = record { read = refl; written = refl; bytes = refl }

pub one_plain : (b : ℕ) (text : List ℕ) → is_quote b ≡ false → is_text_byte b ≡ true → IsPlain text → IsPlain (b ∷ text)
unfolding undoubled
one_plain b text other byte is = record {
  read = rw other (ap (λ (l : List ℕ). b ∷ l) is.read);
  written = rw other (ap (λ (l : List ℕ). b ∷ l) is.written);
  bytes = rw byte is.bytes;
}

pub digit_plain : (d : ℕ) (text : List ℕ) → d ≤ 9 → IsPlain text → IsPlain ((48 + d) ∷ text)
digit_plain d text small is = one_plain (48 + d) text (grind (arith, nat_tests, small)) (grind (arith, nat_tests, small)) is

pub two_plain : (n : ℕ) (text : List ℕ) → n ≤ 99 → IsPlain text → IsPlain (two_digits n ++ text)
two_plain n text small is = digit_plain (n / 10) _ (omega (arith, small)) (digit_plain (n % 10) text (omega arith) is)

short_month : (y m : ℕ) → days_in_month y m ≤ 31
short_month y m = grind arith

pub date_plain : (date : CivilDate) (text : List ℕ) → IsCivil date → IsPlain text → IsPlain (date_text date ++ text)
date_plain date text civil is =
    two_plain (date.year / 100) _ (omega (arith, civil.year.1)) (two_plain (date.year % 100) _ (omega arith)
    (one_plain 45 _ refl refl (two_plain date.month _ (omega (arith, civil.month.1))
    (one_plain 45 _ refl refl (two_plain date.day text (omega (arith, civil.day.1, short_month date.year date.month)) is)))))

pub day_plain : (day : ℤ) (text : List ℕ) → IsDay day → IsPlain text → IsPlain (day_text day ++ text)
day_plain day text within is = date_plain (date_of day) text (numbered day within).0 is

pub clock_plain : (clock : Clock) (text : List ℕ) → IsClock clock → IsPlain text → IsPlain (clock_text clock ++ text)
clock_plain clock text right is =
    two_plain clock.hour _ (omega (arith, right.hour)) (one_plain 58 _ refl refl (two_plain clock.minute _ (omega (arith, right.minute))
    (one_plain 58 _ refl refl (two_plain clock.second text (omega (arith, right.second)) is))))

pub plain_token : (text : List ℕ) → IsPlain text → length text ≤ 65535 → IsToken (39 ∷ (text ++ (39 ∷ [])))
plain_token text is short = record { piece = Quoted text; right = (is.bytes, short); text_is = ap (λ (l : List ℕ). 39 ∷ (l ++ 39 ∷ [])) is.written; kind = kinds.Quoted; kind_is = refl }

-- ---- names in quotes

part_plain : (b : ℕ) → is_word_part b ≡ true → (is_quote b ≡ false) × (is_text_byte b ≡ true)
part_plain b part = (grind (arith, nat_tests, part), grind (arith, nat_tests, part))

parts_plain : (bytes : List ℕ) → list_all is_word_part bytes ≡ true → IsPlain bytes
parts_plain [] all = nothing_plain
parts_plain (b ∷ bytes) all =
    let both_are = and_parts (is_word_part b) (list_all is_word_part bytes) all in
    let byte = part_plain b both_are.0 in
    one_plain b bytes byte.0 byte.1 (parts_plain bytes both_are.1)

pub word_plain : (text : List ℕ) → is_word text ≡ true → IsPlain text
word_plain [] is = absurd (false≢true is)
word_plain (b ∷ bytes) is =
    let both_are = and_parts (is_word_start b) (list_all is_word_part bytes) is in
    let part : is_word_part b ≡ true = rw (both_are.0) refl in
    let byte = part_plain b part in
    one_plain b bytes byte.0 byte.1 (parts_plain bytes both_are.1)

-- a name is one of the words or has at most 64 bytes
word_short : (words : List (List ℕ)) (word : List ℕ) → list_all (λ w. nat_le (length w) 64) words ≡ true → place_in words word < length words → length word ≤ 64
word_short [] word all found = absurd (omega (arith, found))
word_short (first ∷ words) word all found =
    let both_are = and_parts (nat_le (length first) 64) (list_all (λ w. nat_le (length w) 64) words) all in
    elim (cases_Bool (bytes_eq first word)) [
      | inl is ↦ (let same : first ≡ word = (bytes_eq-Decides first word).0 is in let small : length first ≤ 64 = grind (arith, nat_tests, both_are.0) in subst (λ (w : List ℕ). length w ≤ 64) same small)
      | inr other ↦ (let later : (if bytes_eq first word then 0 else 1 + place_in words word) ≡ 1 + place_in words word = ap (λ (b : Bool). if b then 0 else 1 + place_in words word) other in word_short words word both_are.1 (omega (arith, found, later)))
    ]

pub name_short : (text : List ℕ) → is_name (word_kind text) ≡ true → length text ≤ 64
unfolding word_kind
name_short text is = elim (cases_Bool (nat_lt (place_in (reserved_words ++ other_words) text) NAME)) [
  | inl found ↦ (let less : place_in (reserved_words ++ other_words) text < NAME = grind (arith, nat_tests, found) in word_short (reserved_words ++ other_words) text refl less)
  | inr none ↦ elim (cases_Bool (nat_le (length text) 64)) [
    | inl short ↦ grind (arith, nat_tests, short)
    | inr long ↦ (let clash : is_name LONG_NAME ≡ true = sym (ap (λ (b : Bool). is_name (if b then place_in (reserved_words ++ other_words) text else (if nat_le (length text) 64 then NAME else LONG_NAME))) none ∙ ap (λ (b : Bool). is_name (if b then NAME else LONG_NAME)) long) ∙ is in absurd (false≢true clash))
  ]
]

pub quoted_name_token : (text : List ℕ) → IsNameText text → IsToken (39 ∷ (text ++ (39 ∷ [])))
quoted_name_token text is = plain_token text (word_plain text is.word) (omega (arith, name_short text is.free))
