-- A text that is a date stands between its quotes as it is, since it has no quote.
use Rattle.std.proofs.Common.{◌≡◌, ℕ, ℤ, ◌+◌, ◌-◌, ◌/◌, ◌%◌, Bool, true, false, ◌&&◌, not, List, [], ◌∷◌, length, take, drop, Option, Some, None, is_some, if◌then◌else◌, refl, sym, ap, ◌∙◌, arith}
use Rattle.std.specs.List.{list_all}
use Rattle.std.proofs.lemmas.Bool.{and_parts}
use Rattle.std.proofs.lemmas.Bool.Decides.{nat_tests}
use Rattle.tt_lex.specs.Lexis.{is_quote}
use Rattle.tt_value.specs.calendar.Calendar.{day_text, date_of, IsDay}
use Rattle.tt_value.specs.calendar.Reading.{day_of}
use Rattle.tt_value.proofs.calendar.Dates.{day_of-read}
use Rattle.tt_sql.proofs.grammar.Fronts.{false≢true}
use Rattle.tt_sql.specs.grammar.TokenKinds.{DATE_TEXT, TIME_TEXT, UNIT_TEXT, NAME_TEXT, OTHER_TEXT, text_kind, unquoted, undoubled}

abbrev no_quote : ℕ → Bool
no_quote b = not (is_quote b)

-- what comes out without a quote came in as it is
as_it_is : (bytes : List ℕ) → list_all no_quote (undoubled false bytes) ≡ true → undoubled false bytes ≡ bytes
unfolding undoubled
as_it_is [] e = refl
as_it_is (b ∷ bytes) e = one (is_quote b) refl (as_it_is bytes) e
  where
    one : (q : Bool) → is_quote b ≡ q → (list_all no_quote (undoubled false bytes) ≡ true → undoubled false bytes ≡ bytes) → (no_quote b && list_all no_quote (undoubled q bytes)) ≡ true → b ∷ undoubled q bytes ≡ b ∷ bytes
    one true p others e = absurd (false≢true (sym (ap not p) ∙ (and_parts (no_quote b) (list_all no_quote (undoubled true bytes)) e).0))
    one false p others e = ap (λ (x : List ℕ). b ∷ x) (others (and_parts (no_quote b) (list_all no_quote (undoubled false bytes)) e).1)

no_digit_is_quote : (n : ℕ) → no_quote (48 + n) ≡ true
no_digit_is_quote n = grind (arith, nat_tests)

digits_are_plain : (a b c d e f g h : ℕ) → list_all no_quote ((48 + a) ∷ (48 + b) ∷ (48 + c) ∷ (48 + d) ∷ 45 ∷ (48 + e) ∷ (48 + f) ∷ 45 ∷ (48 + g) ∷ (48 + h) ∷ []) ≡ true
digits_are_plain a b c d e f g h = rw (no_digit_is_quote a, no_digit_is_quote b, no_digit_is_quote c, no_digit_is_quote d, no_digit_is_quote e, no_digit_is_quote f, no_digit_is_quote g, no_digit_is_quote h) refl

day_is_plain : (day : ℤ) → list_all no_quote (day_text day) ≡ true
day_is_plain day =
    let d = date_of day in
    digits_are_plain (d.year / 100 / 10) (d.year / 100 % 10) (d.year % 100 / 10) (d.year % 100 % 10) (d.month / 10) (d.month % 10) (d.day / 10) (d.day % 10)

-- ---- the kind of a date's text

dated : (o : Option ℤ) (a b c : Bool) → (if is_some o then DATE_TEXT else (if a then TIME_TEXT else (if b then UNIT_TEXT else (if c then NAME_TEXT else OTHER_TEXT)))) ≡ DATE_TEXT → (day : ℤ) × (o ≡ Some day)
dated (Some day) a b c e = (day, refl)
dated None true b c e = absurd (omega (arith, e))
dated None false true c e = absurd (omega (arith, e))
dated None false false true e = absurd (omega (arith, e))
dated None false false false e = absurd (omega (arith, e))

-- what stands between the quotes
abbrev pub inside : List ℕ → List ℕ
inside bytes = take (length bytes - 1 - 1) (drop 1 bytes)

same_length : (n : ℕ) → n - 2 ≡ n - 1 - 1
same_length n = omega arith

pub record IsDated (bytes : List ℕ) : Type 0 where
  pub day : ℤ
  pub read : day_of (unquoted bytes) ≡ Some day
  pub is_day : IsDay day
  pub text : unquoted bytes ≡ day_text day
  pub same : unquoted bytes ≡ inside bytes

read_as_date : (text : List ℕ) → text_kind text ≡ DATE_TEXT → (day : ℤ) × (day_of text ≡ Some day)
unfolding text_kind
read_as_date text e = search (dated, e)

pub is_dated : (bytes : List ℕ) → text_kind (unquoted bytes) ≡ DATE_TEXT → IsDated bytes
is_dated bytes e =
    let found = read_as_date (unquoted bytes) e in
    let is = day_of-read (unquoted bytes) found.0 found.1 in
    let plain : list_all no_quote (unquoted bytes) ≡ true = ap (list_all no_quote) is.1 ∙ day_is_plain found.0 in
    record {
      day = found.0;
      read = found.1;
      is_day = is.0;
      text = is.1;
      same = as_it_is (take (length bytes - 2) (drop 1 bytes)) plain ∙ ap (λ n. take n (drop 1 bytes)) (same_length (length bytes));
    }
