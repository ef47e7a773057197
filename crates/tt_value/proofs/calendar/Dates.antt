-- The day that a text means is the day whose text it is.
use Rattle.std.proofs.Common.{◌≡◌, ℕ, zero, suc, ◌+◌, ◌-◌, ◌/◌, ◌%◌, ◌<◌, ◌≤◌, List, [], ◌∷◌, ◌++◌, length, Option, Some, None, refl, sym, ap, ◌∙◌, arith, inl, inr, ℤ, pos, neg_ℤ, ◌+ℤ◌, Bool, true, false}
use Rattle.std.specs.Prelude.{if◌then◌else◌, ◌&&◌, ◌==◌}
use Rattle.std.specs.List.{list_all}
use Rattle.std.proofs.lemmas.Bool.{cases_Bool, eqb-true, and_parts}
use Rattle.std.proofs.lemmas.Option.{none-some, same_Some}
use Rattle.std.proofs.lemmas.Bool.Decides.{nat_tests}
use Rattle.std.specs.Char.{is_ascii_digit}
use Rattle.jiff_core.specs.Calendar.{days_from_civil}
use Rattle.jiff_core.proofs.SignedLemmas.{signed_arith}
use Rattle.jiff_core.proofs.DateLemmas.{days_from_civil-day, days_from_civil-next_month, days_from_civil-next_year}
use Rattle.tt_value.specs.calendar.Calendar.{CivilDate, IsCivil, is_leap_year, days_in_month, date_of, IsDay, two_digits, four_digits, date_text, day_text}
use Rattle.tt_value.proofs.calendar.DayNumbers.{number, numbered, day_is, made, same_months, number-first, short_months}
use Rattle.tt_value.specs.calendar.Reading.{days_in_year, days_before_year, days_before_month, day_number, is_civil, digits_value, has_date_form, written_date, day_of}

-- ---- the number of a date

abbrev on : ℕ → ℕ → ℕ → ℤ
on y m d = days_from_civil (pos y) m d

month_some : (y m : ℕ) → 28 ≤ days_in_month y m
month_some y m = grind arith

-- a day of a month stands so far behind its first
within_month : (y m d : ℕ) → 1 ≤ d → on y m d ≡ on y m 1 +ℤ pos (d - 1)
within_month y m d some = omega (arith, signed_arith, days_from_civil-day (pos y) m 1 d (omega arith) some)

next_month : (y m : ℕ) → 1 ≤ m → m < 12 → on y (m + 1) 1 ≡ on y m 1 +ℤ pos (days_in_month y m)
next_month y m some less = omega (arith, signed_arith, within_month y m (days_in_month y m) (omega (arith, month_some y m)), days_from_civil-next_month (pos y) m (days_in_month y m) some (same_months y m), month_some y m)

months_before : (y m : ℕ) → suc m ≤ 12 → on y (suc m) 1 ≡ on y 1 1 +ℤ pos (days_before_month y (suc m))
months_before y zero small = omega (arith, signed_arith)
months_before y (suc m) small =
    let plus : suc (suc m) ≡ suc m + 1 = omega arith in
    let step : on y (suc (suc m)) 1 ≡ on y (suc m) 1 +ℤ pos (days_in_month y (suc m)) = ap (λ (n : ℕ). on y n 1) plus ∙ next_month y (suc m) (omega arith) (omega arith) in
    omega (arith, signed_arith, step, months_before y m (omega arith))

-- the months of a year make its days
whole_year : (y : ℕ) → days_before_month y 12 + 31 ≡ days_in_year y
whole_year y = elim (cases_Bool (is_leap_year y)) [
  | inl leap ↦ rw leap refl
  | inr common ↦ rw common refl
]

next_year : (y : ℕ) → on (y + 1) 1 1 ≡ on y 1 1 +ℤ pos (days_in_year y)
next_year y =
    let last : on (y + 1) 1 1 ≡ on y 12 31 +ℤ pos 1 = days_from_civil-next_year (pos y) (pos (y + 1)) (omega (arith, signed_arith)) (omega (arith, signed_arith)) in
    omega (arith, signed_arith, last, within_month y 12 31 (omega arith), months_before y 11 (omega arith), whole_year y)

first_day : on 1 1 1 ≡ neg_ℤ (pos 719162)
first_day = number-first

years_before : (y : ℕ) → on (suc y) 1 1 ≡ pos (days_before_year (suc y)) +ℤ neg_ℤ (pos 719162)
years_before zero = omega (arith, signed_arith, first_day)
years_before (suc y) =
    let plus : suc (suc y) ≡ suc y + 1 = omega arith in
    let step : on (suc (suc y)) 1 1 ≡ on (suc y) 1 1 +ℤ pos (days_in_year (suc y)) = ap (λ (n : ℕ). on n 1 1) plus ∙ next_year (suc y) in
    omega (arith, signed_arith, step, years_before y)

counted : (y m d : ℕ) → 1 ≤ d → suc m ≤ 12 → on (suc y) (suc m) d ≡ pos (days_before_year (suc y) + days_before_month (suc y) (suc m) + (d - 1)) +ℤ neg_ℤ (pos 719162)
counted y m d some small = omega (arith, signed_arith, within_month (suc y) (suc m) d some, months_before (suc y) m small, years_before y)

same_number : (y m d : ℕ) → 1 ≤ y → 1 ≤ m → m ≤ 12 → 1 ≤ d → on y m d ≡ day_number (made y m d)
same_number zero m d ly lm um ld = absurd (omega arith)
same_number (suc y) zero d ly lm um ld = absurd (omega arith)
same_number (suc y) (suc m) d ly lm um ld = counted y m d ld um

-- the library's number of a date is its day number
pub number_is : (date : CivilDate) → IsCivil date → number date ≡ day_number date
number_is date civil = same_number date.year date.month date.day civil.year.0 civil.month.0 civil.month.1 civil.day.0

-- ---- digits

pub digit_written : (n : ℕ) → n ≤ 9 → is_ascii_digit (48 + n) ≡ true
digit_written n small = grind (arith, nat_tests)

pub digit_range : (b : ℕ) → is_ascii_digit b ≡ true → (48 ≤ b) × (b ≤ 57)
digit_range b digit = grind (arith, nat_tests)

four_value : (y : ℕ) → y ≤ 9999 → digits_value (four_digits y) ≡ y
four_value y small = omega arith

pub two_value : (n : ℕ) → n ≤ 99 → digits_value (two_digits n) ≡ n
two_value n small = omega arith

abbrev list4 : ℕ → ℕ → ℕ → ℕ → List ℕ
list4 a b c d = a ∷ b ∷ c ∷ d ∷ []

four_read : (a b c d : ℕ) → 48 ≤ a → a ≤ 57 → 48 ≤ b → b ≤ 57 → 48 ≤ c → c ≤ 57 → 48 ≤ d → d ≤ 57 → four_digits (digits_value (list4 a b c d)) ≡ list4 a b c d
four_read a b c d la ua lb ub lc uc ld ud =
    let y = digits_value (list4 a b c d) in
    let ea : 48 + y / 100 / 10 ≡ a = omega arith in
    let eb : 48 + y / 100 % 10 ≡ b = omega arith in
    let ec : 48 + y % 100 / 10 ≡ c = omega arith in
    let ed : 48 + y % 100 % 10 ≡ d = omega arith in
    ap (λ x. list4 x (48 + y / 100 % 10) (48 + y % 100 / 10) (48 + y % 100 % 10)) ea ∙ ap (λ x. list4 a x (48 + y % 100 / 10) (48 + y % 100 % 10)) eb ∙ ap (λ x. list4 a b x (48 + y % 100 % 10)) ec ∙ ap (list4 a b c) ed

pub two_read : (a b : ℕ) → 48 ≤ a → a ≤ 57 → 48 ≤ b → b ≤ 57 → two_digits (digits_value (a ∷ b ∷ [])) ≡ a ∷ b ∷ []
two_read a b la ua lb ub =
    let n = digits_value (a ∷ b ∷ []) in
    let ea : 48 + n / 10 ≡ a = omega arith in
    let eb : 48 + n % 10 ≡ b = omega arith in
    ap (λ x. x ∷ (48 + n % 10) ∷ []) ea ∙ ap (λ x. a ∷ x ∷ []) eb

-- ---- the text of a date is read as that date

form_written : (y m d : ℕ) → y ≤ 9999 → m ≤ 99 → d ≤ 99 → has_date_form (date_text (made y m d)) ≡ true
form_written y m d ly lm ld = rw (digit_written (y / 100 / 10) (omega arith), digit_written (y / 100 % 10) (omega arith), digit_written (y % 100 / 10) (omega arith), digit_written (y % 100 % 10) (omega arith), digit_written (m / 10) (omega arith), digit_written (m % 10) (omega arith), digit_written (d / 10) (omega arith), digit_written (d % 10) (omega arith)) refl

date_written : (y m d : ℕ) → y ≤ 9999 → m ≤ 99 → d ≤ 99 → written_date (date_text (made y m d)) ≡ made y m d
date_written y m d ly lm ld = ap (λ x. made x (digits_value (two_digits m)) (digits_value (two_digits d))) (four_value y ly) ∙ ap (λ x. made y x (digits_value (two_digits d))) (two_value m lm) ∙ ap (made y m) (two_value d ld)

civil_test : (date : CivilDate) → IsCivil date → is_civil date ≡ true
civil_test date civil = grind (arith, nat_tests, civil.year, civil.month, civil.day)

civil_from : (date : CivilDate) → is_civil date ≡ true → IsCivil date
civil_from date test = record { year = grind (arith, nat_tests, test); month = grind (arith, nat_tests, test); day = grind (arith, nat_tests, test) }

pub if_both : {A : Type 0} (a b : Bool) (x : Option A) → a ≡ true → b ≡ true → (if a && b then x else None) ≡ x
if_both a b x first second = rw (first, second) refl

pub both_if : {A : Type 0} (a b : Bool) (x : Option A) (y : A) → (if a && b then x else None) ≡ Some y → (a ≡ true) × (b ≡ true) × (x ≡ Some y)
both_if true true x y e = (refl, refl, e)
both_if true false x y e = absurd (none-some y e)
both_if false b x y e = absurd (none-some y e)

read_as : (text : List ℕ) (date : CivilDate) (n : ℤ) → has_date_form text ≡ true → written_date text ≡ date → IsCivil date → number date ≡ n → day_of text ≡ Some n
unfolding day_of
read_as text date n form is civil numbers =
    if_both (has_date_form text) (is_civil (written_date text)) (Some (day_number (written_date text))) form (ap is_civil is ∙ civil_test date civil)
    ∙ ap (λ (z : ℤ). Some z) (ap day_number is ∙ sym (number_is date civil) ∙ numbers)

-- what is written for a day is read as that day
pub day_of-written : (day : ℤ) → IsDay day → day_of (day_text day) ≡ Some day
day_of-written day within =
    let found = numbered day within in
    let d = date_of day in
    let ly : d.year ≤ 9999 = found.0.year.1 in
    let lm : d.month ≤ 99 = omega (arith, found.0.month.1) in
    let ld : d.day ≤ 99 = omega (arith, found.0.day.1, (short_months d.year d.month).1) in
    read_as (date_text d) d day (form_written d.year d.month d.day ly lm ld) (date_written d.year d.month d.day ly lm ld) found.0 found.1

-- ---- what is read as a day is its text

wrong_length : {A : Type 0} (text : List ℕ) (n : ℕ) → length text ≡ n → (n ≡ 10 → ⊥) → has_date_form text ≡ true → A
wrong_length text n long other form = absurd (other (sym long ∙ eqb-true (length text) 10 (and_parts (length text == 10) _ form).0))

ten_bytes : (a b c d e f g h i j : ℕ) → has_date_form (a ∷ b ∷ c ∷ d ∷ e ∷ f ∷ g ∷ h ∷ i ∷ j ∷ []) ≡ true → a ∷ b ∷ c ∷ d ∷ e ∷ f ∷ g ∷ h ∷ i ∷ j ∷ [] ≡ date_text (written_date (a ∷ b ∷ c ∷ d ∷ e ∷ f ∷ g ∷ h ∷ i ∷ j ∷ []))
ten_bytes a b c d e f g h i j form =
    let signs = and_parts ((e == 45) && (h == 45)) _ form in
    let dashes = and_parts (e == 45) (h == 45) signs.0 in
    let years = and_parts (list_all is_ascii_digit (list4 a b c d)) _ signs.1 in
    let others = and_parts (list_all is_ascii_digit (f ∷ g ∷ [])) (list_all is_ascii_digit (i ∷ j ∷ [])) years.1 in
    let da = and_parts (is_ascii_digit a) _ years.0 in
    let db = and_parts (is_ascii_digit b) _ da.1 in
    let dc = and_parts (is_ascii_digit c) _ db.1 in
    let dd = and_parts (is_ascii_digit d) _ dc.1 in
    let df = and_parts (is_ascii_digit f) _ others.0 in
    let dg = and_parts (is_ascii_digit g) _ df.1 in
    let di = and_parts (is_ascii_digit i) _ others.1 in
    let dj = and_parts (is_ascii_digit j) _ di.1 in
    let ra = digit_range a da.0 in let rb = digit_range b db.0 in let rc = digit_range c dc.0 in let rd = digit_range d dd.0 in
    let rf = digit_range f df.0 in let rg = digit_range g dg.0 in let ri = digit_range i di.0 in let rj = digit_range j dj.0 in
    let year = sym (four_read a b c d ra.0 ra.1 rb.0 rb.1 rc.0 rc.1 rd.0 rd.1) in
    let month = sym (two_read f g rf.0 rf.1 rg.0 rg.1) in
    let day = sym (two_read i j ri.0 ri.1 rj.0 rj.1) in
    let e_is = eqb-true e 45 dashes.0 in
    let h_is = eqb-true h 45 dashes.1 in
    ap (λ (x : ℕ). a ∷ b ∷ c ∷ d ∷ x ∷ f ∷ g ∷ h ∷ i ∷ j ∷ []) e_is
    ∙ ap (λ (x : ℕ). a ∷ b ∷ c ∷ d ∷ 45 ∷ f ∷ g ∷ x ∷ i ∷ j ∷ []) h_is
    ∙ ap (λ (xs : List ℕ). xs ++ (45 ∷ f ∷ g ∷ 45 ∷ i ∷ j ∷ [])) year
    ∙ ap (λ (xs : List ℕ). four_digits (digits_value (list4 a b c d)) ++ (45 ∷ (xs ++ (45 ∷ i ∷ j ∷ [])))) month
    ∙ ap (λ (xs : List ℕ). four_digits (digits_value (list4 a b c d)) ++ (45 ∷ (two_digits (digits_value (f ∷ g ∷ [])) ++ (45 ∷ xs)))) day

written_as : (text : List ℕ) → has_date_form text ≡ true → text ≡ date_text (written_date text)
written_as [] form = wrong_length [] 0 refl (λ x. omega (arith, x)) form
written_as (a ∷ []) form = wrong_length (a ∷ []) 1 refl (λ x. omega (arith, x)) form
written_as (a ∷ b ∷ []) form = wrong_length (a ∷ b ∷ []) 2 refl (λ x. omega (arith, x)) form
written_as (a ∷ b ∷ c ∷ []) form = wrong_length (a ∷ b ∷ c ∷ []) 3 refl (λ x. omega (arith, x)) form
written_as (a ∷ b ∷ c ∷ d ∷ []) form = wrong_length (a ∷ b ∷ c ∷ d ∷ []) 4 refl (λ x. omega (arith, x)) form
written_as (a ∷ b ∷ c ∷ d ∷ e ∷ []) form = wrong_length (a ∷ b ∷ c ∷ d ∷ e ∷ []) 5 refl (λ x. omega (arith, x)) form
written_as (a ∷ b ∷ c ∷ d ∷ e ∷ f ∷ []) form = wrong_length (a ∷ b ∷ c ∷ d ∷ e ∷ f ∷ []) 6 refl (λ x. omega (arith, x)) form
written_as (a ∷ b ∷ c ∷ d ∷ e ∷ f ∷ g ∷ []) form = wrong_length (a ∷ b ∷ c ∷ d ∷ e ∷ f ∷ g ∷ []) 7 refl (λ x. omega (arith, x)) form
written_as (a ∷ b ∷ c ∷ d ∷ e ∷ f ∷ g ∷ h ∷ []) form = wrong_length (a ∷ b ∷ c ∷ d ∷ e ∷ f ∷ g ∷ h ∷ []) 8 refl (λ x. omega (arith, x)) form
written_as (a ∷ b ∷ c ∷ d ∷ e ∷ f ∷ g ∷ h ∷ i ∷ []) form = wrong_length (a ∷ b ∷ c ∷ d ∷ e ∷ f ∷ g ∷ h ∷ i ∷ []) 9 refl (λ x. omega (arith, x)) form
written_as (a ∷ b ∷ c ∷ d ∷ e ∷ f ∷ g ∷ h ∷ i ∷ j ∷ []) form = ten_bytes a b c d e f g h i j form
written_as (a ∷ b ∷ c ∷ d ∷ e ∷ f ∷ g ∷ h ∷ i ∷ j ∷ k ∷ text) form = wrong_length (a ∷ b ∷ c ∷ d ∷ e ∷ f ∷ g ∷ h ∷ i ∷ j ∷ k ∷ text) (11 + length text) (omega arith) (λ x. omega (arith, x)) form

-- a text that is read as a day is the text of that day
pub day_of-read : (text : List ℕ) (day : ℤ) → day_of text ≡ Some day → IsDay day × (text ≡ day_text day)
unfolding day_of
day_of-read text day e =
    let found = both_if (has_date_form text) (is_civil (written_date text)) (Some (day_number (written_date text))) day e in
    let civil = civil_from (written_date text) found.1 in
    let is = day_is (written_date text) day civil (number_is (written_date text) civil ∙ same_Some (day_number (written_date text)) day found.2) in
    (is.0, written_as text found.0 ∙ ap date_text (sym is.1))
