-- Digits that are read one by one, and the library's dates.
use Rattle.std.proofs.Common.{◌≡◌, ℕ, zero, suc, ◌+◌, ◌-◌, ◌*◌, ◌<◌, ◌≤◌, List, [], ◌∷◌, length, take, drop, get_or, Option, Some, None, refl, sym, ap, subst, ◌∙◌, arith, inl, inr, ℤ, pos, w8, w16, to_z, Bool, true, false, add-one, length-drop}
use Rattle.std.specs.Prelude.{fold, if◌then◌else◌, ◌&&◌, ◌==◌}
use Rattle.std.specs.List.{list_all, slice_index}
use Rattle.std.specs.Char.{is_ascii_digit}
use Rattle.std.proofs.lemmas.Bool.{cases_Bool}
use Rattle.std.proofs.lemmas.Bool.Decides.{nat_tests}
use Rattle.std.proofs.lemmas.Int.{to_z_pos}
use Rattle.std.proofs.lemmas.List.{drop_more, drop_all, take_all}
use Rattle.std.proofs.lemmas.Bool.{eqb-true, and_parts}
use Rattle.jiff_core.specs.declared.civil.date.Date.{Date}
use Rattle.jiff_core.specs.Calendar.{days_from_civil, IsCivilDate, IsDate}
use Rattle.jiff_core.specs.Date.{epoch_day, IsYmd}
use Rattle.jiff_core.proofs.SignedLemmas.{signed_arith}
use Rattle.tt_value.specs.calendar.Calendar.{CivilDate, IsCivil, days_in_month}
use Rattle.tt_value.proofs.calendar.DayNumbers.{number, made, same_months}
use Rattle.tt_value.specs.calendar.Reading.{is_civil, day_number, digits_value, written_date, day_of}
use Rattle.tt_value.proofs.calendar.Dates.{number_is}
use Rattle.tt_zone.specs.Days.{day_if_civil, day_of_parts, has_date_signs}

-- ---- digits

abbrev pub with_digit : ℕ → ℕ → ℕ
with_digit value digit = 10 * value + (digit - 48)

abbrev pub most : ℕ → ℕ
most zero = 0
most (suc n) = 10 * most n + 9

digit_range : (b : ℕ) → is_ascii_digit b ≡ true → (48 ≤ b) × (b ≤ 57)
digit_range b digit = grind (arith, nat_tests)

pub digit_small : (b d : ℕ) → is_ascii_digit b ≡ true → d ≡ b - 48 → d ≤ 9
digit_small b d digit is = omega (arith, (digit_range b digit).0, (digit_range b digit).1, is)

pub most_short : (i : ℕ) → i < 4 → most i ≤ 999
most_short zero below = omega arith
most_short (suc zero) below = omega arith
most_short (suc (suc zero)) below = omega arith
most_short (suc (suc (suc zero))) below = omega arith
most_short (suc (suc (suc (suc i)))) below = absurd (omega arith)

most_more : (i : ℕ) → most (i + 1) ≡ 10 * most i + 9
most_more i = rw add-one refl

-- what is read so far, by what is left
pub record IsReadTo (digits : List ℕ) (i number : ℕ) : Type 0 where
  pub value : fold with_digit number (drop i digits) ≡ digits_value digits
  pub all : list_all is_ascii_digit (drop i digits) ≡ list_all is_ascii_digit digits
  pub small : number ≤ most i

pub read_start : (digits : List ℕ) → IsReadTo digits 0 0
read_start digits = record { value = refl; all = refl; small = omega arith }

pub read_more : (digits : List ℕ) (i number b : ℕ) → IsReadTo digits i number → i < length digits → b ≡ get_or digits i b → is_ascii_digit b ≡ true → IsReadTo digits (i + 1) (10 * number + (b - 48))
read_more digits i number b so_far below at digit =
    let step : drop i digits ≡ b ∷ drop (i + 1) digits = drop_more digits i b below ∙ ap (λ y. y ∷ drop (i + 1) digits) (sym at) in
    let range = digit_range b digit in
    let more = most_more i in
    record {
      value = sym (ap (fold with_digit number) step) ∙ so_far.value;
      all = ap (λ t. t && list_all is_ascii_digit (drop (i + 1) digits)) (sym digit) ∙ sym (ap (list_all is_ascii_digit) step) ∙ so_far.all;
      small = omega (arith, so_far.small, range.0, range.1, more);
    }

abbrev pub number_if : List ℕ → Option ℕ
number_if digits = if list_all is_ascii_digit digits then Some (digits_value digits) else None

pub read_end : (digits : List ℕ) (i number : ℕ) → IsReadTo digits i number → length digits ≤ i → Some number ≡ number_if digits
read_end digits i number so_far past =
    let none : drop i digits ≡ [] = drop_all i digits past in
    let all : list_all is_ascii_digit digits ≡ true = sym so_far.all ∙ ap (list_all is_ascii_digit) none in
    let value : number ≡ digits_value digits = sym (ap (fold with_digit number) none) ∙ so_far.value in
    rw all (ap Some value)

pub no_number : (digits : List ℕ) (i number b : ℕ) → IsReadTo digits i number → i < length digits → b ≡ get_or digits i b → is_ascii_digit b ≡ false → None ≡ number_if digits
no_number digits i number b so_far below at digit =
    let step : drop i digits ≡ b ∷ drop (i + 1) digits = drop_more digits i b below ∙ ap (λ y. y ∷ drop (i + 1) digits) (sym at) in
    let all : list_all is_ascii_digit digits ≡ false = sym so_far.all ∙ ap (list_all is_ascii_digit) step ∙ ap (λ t. t && list_all is_ascii_digit (drop (i + 1) digits)) digit in
    rw all refl

-- ---- dates

civil_test : (date : CivilDate) → IsCivil date → is_civil date ≡ true
civil_test date civil = grind (arith, nat_tests, civil.year, civil.month, civil.day)

civil_from : (date : CivilDate) → is_civil date ≡ true → IsCivil date
civil_from date test = record { year = grind (arith, nat_tests, test); month = grind (arith, nat_tests, test); day = grind (arith, nat_tests, test) }

short_day : (y m : ℕ) → days_in_month y m ≤ 31
short_day y m = grind arith

-- a date that the calendar does not have
pub no_day : (y m a : ℕ) → (IsCivil (made y m a) → ⊥) → None ≡ day_of_parts y m a
no_day y m a never = elim (cases_Bool (is_civil (made y m a))) [
  | inl civil ↦ absurd (never (civil_from (made y m a) civil))
  | inr other ↦ rw other refl
]

pub some_day : (y m a : ℕ) (z : ℤ) → IsCivil (made y m a) → number (made y m a) ≡ z → Some z ≡ day_of_parts y m a
some_day y m a z civil is = rw (civil_test (made y m a) civil) (ap (λ (n : ℤ). Some n) (sym is ∙ number_is (made y m a) civil))

-- the parts of a date are within their ranges
pub day_range : (y m a : ℕ) → IsCivil (made y m a) → a ≤ 31
day_range y m a civil = omega (arith, civil.day.1, short_day y m)

-- a date that the library refuses
pub refused : (y m a : ℕ) → y ≤ 9999 → m ≤ 12 → a ≤ 31 → (IsDate (to_z w16 y) (to_z w8 m) (to_z w8 a) → ⊥) → None ≡ day_of_parts y m a
refused y m a ly lm la never = no_day y m a (λ civil. never (
    rw (to_z_pos w16 y (omega arith), to_z_pos w8 m (omega arith), to_z_pos w8 a (omega arith))
    ((omega (arith, signed_arith), omega (arith, signed_arith, civil.year.1)), (omega (arith, signed_arith, civil.month.0), omega (arith, signed_arith, civil.month.1)), (omega (arith, signed_arith, civil.day.0), omega (arith, signed_arith, civil.day.1, same_months y m)))))

by_parts : (year : ℤ) (month day y m a : ℕ) → IsCivilDate year month day → 1 ≤ y → y ≤ 9999 → year ≡ pos y → month ≡ m → day ≡ a → IsCivil (made y m a) × (number (made y m a) ≡ days_from_civil year month day)
by_parts year month day y m a civil first last year_is month_is day_is =
    let civil' : IsCivilDate (pos y) m a = subst (λ (t : ℤ). IsCivilDate t m a) year_is (subst (λ (t : ℕ). IsCivilDate year t a) month_is (subst (λ (t : ℕ). IsCivilDate year month t) day_is civil)) in
    (record { year = (first, last); month = civil'.1; day = civil'.2 }, ap (λ (t : ℤ). days_from_civil t m a) (sym year_is) ∙ ap (λ (t : ℕ). days_from_civil year t a) (sym month_is) ∙ ap (days_from_civil year month) (sym day_is))

-- a date that the library takes
pub accepted : (d : Date) (y m a : ℕ) (z : ℤ) → 1 ≤ y → y ≤ 9999 → m ≤ 12 → a ≤ 31 → IsYmd (to_z w16 y) (to_z w8 m) (to_z w8 a) d → z ≡ epoch_day d → Some z ≡ day_of_parts y m a
accepted d y m a z some ly lm la parts is =
    let year : d.year ≡ pos y = parts.0 ∙ to_z_pos w16 y (omega arith) in
    let month : pos d.month ≡ pos m = parts.1 ∙ to_z_pos w8 m (omega arith) in
    let day : pos d.day ≡ pos a = parts.2 ∙ to_z_pos w8 a (omega arith) in
    let found = by_parts d.year d.month d.day y m a (d.year_in, d.month_in, d.day_in) some ly year (omega (arith, signed_arith, month)) (omega (arith, signed_arith, day)) in
    some_day y m a z found.0 (found.1 ∙ sym is)

-- ---- a whole text

module _ (text : List ℕ) where
  abbrev long : Bool
  long = length text == 10

  abbrev signs : Bool
  signs = slice_index text 4 == 45 && slice_index text 7 == 45

  abbrev year_digits : Bool
  year_digits = list_all is_ascii_digit (take 4 text)

  abbrev month_digits : Bool
  month_digits = list_all is_ascii_digit (take 2 (drop 5 text))

  abbrev day_digits : Bool
  day_digits = list_all is_ascii_digit (drop 8 text)

  abbrev civil : Bool
  civil = is_civil (written_date text)

  abbrev day_of_text : Option ℤ
  day_of_text = Some (day_number (written_date text))

abbrev tested : Bool → Bool → Bool → Bool → Option ℤ → Option ℤ
tested l s d civil x = if (l && (s && d)) && civil then x else None

unsigned : (l s d civil : Bool) (x : Option ℤ) → l && s ≡ false → None ≡ tested l s d civil x
unsigned true true d civil x e = absurd (cc)
unsigned true false d civil x e = refl
unsigned false s d civil x e = refl

pub no_signs : (text : List ℕ) → has_date_signs text ≡ false → None ≡ day_of text
unfolding day_of
no_signs text e = unsigned (long text) (signs text) (year_digits text && (month_digits text && day_digits text)) (civil text) (day_of_text text) e

undigited : (l s d civil : Bool) (x : Option ℤ) → d ≡ false → None ≡ tested l s d civil x
undigited true true d civil x e = rw e refl
undigited true false d civil x e = refl
undigited false s d civil x e = refl

not_digits : (r : Option ℕ) (digits : List ℕ) → r ≡ number_if digits → r ≡ None → list_all is_ascii_digit digits ≡ false
not_digits r digits is none = elim (cases_Bool (list_all is_ascii_digit digits)) [
  | inl all ↦ (let e : None ≡ Some (digits_value digits) = sym none ∙ is ∙ rw all refl in absurd (cc))
  | inr other ↦ other
]

are_digits : (r : Option ℕ) (n : ℕ) (digits : List ℕ) → r ≡ number_if digits → r ≡ Some n → (list_all is_ascii_digit digits ≡ true) × (n ≡ digits_value digits)
are_digits r n digits is some = elim (cases_Bool (list_all is_ascii_digit digits)) [
  | inl all ↦ (let e : Some n ≡ Some (digits_value digits) = sym some ∙ is ∙ rw all refl in (all, cc))
  | inr other ↦ (let e : Some n ≡ None = sym some ∙ is ∙ rw other refl in absurd (cc))
]

first_false : (y m d : Bool) → y ≡ false → y && (m && d) ≡ false
first_false y m d e = rw e refl

second_false : (y m d : Bool) → m ≡ false → y && (m && d) ≡ false
second_false true m d e = rw e refl
second_false false m d e = refl

third_false : (y m d : Bool) → d ≡ false → y && (m && d) ≡ false
third_false true true d e = e
third_false true false d e = refl
third_false false m d e = refl

-- the last two bytes of ten
last_two : (text : List ℕ) → length text ≡ 10 → take 2 (drop 8 text) ≡ drop 8 text
last_two text long = take_all 2 (drop 8 text) (omega (arith, length-drop 8 text))

pub no_year : (text : List ℕ) (r : Option ℕ) → r ≡ number_if (take 4 text) → r ≡ None → None ≡ day_of text
unfolding day_of
no_year text r is none = undigited (long text) (signs text) (year_digits text && (month_digits text && day_digits text)) (civil text) (day_of_text text) (first_false (year_digits text) (month_digits text) (day_digits text) (not_digits r (take 4 text) is none))

pub no_month : (text : List ℕ) (r : Option ℕ) → r ≡ number_if (take 2 (drop 5 text)) → r ≡ None → None ≡ day_of text
unfolding day_of
no_month text r is none = undigited (long text) (signs text) (year_digits text && (month_digits text && day_digits text)) (civil text) (day_of_text text) (second_false (year_digits text) (month_digits text) (day_digits text) (not_digits r (take 2 (drop 5 text)) is none))

long_enough : (text : List ℕ) → has_date_signs text ≡ true → length text ≡ 10
long_enough text e = eqb-true (length text) 10 (and_parts (length text == 10) _ e).0

pub no_day_part : (text : List ℕ) (r : Option ℕ) → has_date_signs text ≡ true → r ≡ number_if (take 2 (drop 8 text)) → r ≡ None → None ≡ day_of text
unfolding day_of
no_day_part text r has is none =
    let last : r ≡ number_if (drop 8 text) = is ∙ ap number_if (last_two text (long_enough text has)) in
    undigited (long text) (signs text) (year_digits text && (month_digits text && day_digits text)) (civil text) (day_of_text text) (third_false (year_digits text) (month_digits text) (day_digits text) (not_digits r (drop 8 text) last none))

digited : (l s y m d civil : Bool) (x : Option ℤ) → l && s ≡ true → y ≡ true → m ≡ true → d ≡ true → (if civil then x else None) ≡ tested l s (y && (m && d)) civil x
digited true true y m d civil x e ye me de = rw (ye, me, de) refl
digited true false y m d civil x e ye me de = absurd (cc)
digited false s y m d civil x e ye me de = absurd (cc)

pub whole_day : (text : List ℕ) (ry rm rd : Option ℕ) (y m d : ℕ) → has_date_signs text ≡ true → ry ≡ number_if (take 4 text) → ry ≡ Some y → rm ≡ number_if (take 2 (drop 5 text)) → rm ≡ Some m → rd ≡ number_if (take 2 (drop 8 text)) → rd ≡ Some d → day_of_parts y m d ≡ day_of text
unfolding day_of
whole_day text ry rm rd y m d has iy sy im sm id sd =
    let year = are_digits ry y (take 4 text) iy sy in
    let month = are_digits rm m (take 2 (drop 5 text)) im sm in
    let day = are_digits rd d (drop 8 text) (id ∙ ap number_if (last_two text (long_enough text has))) sd in
    let date : made y m d ≡ written_date text = ap (λ (n : ℕ). made n m d) year.1 ∙ ap (λ (n : ℕ). made (digits_value (take 4 text)) n d) month.1 ∙ ap (made (digits_value (take 4 text)) (digits_value (take 2 (drop 5 text)))) day.1 in
    ap day_if_civil date ∙ digited (long text) (signs text) (year_digits text) (month_digits text) (day_digits text) (civil text) (day_of_text text) has year.0 month.0 day.0
