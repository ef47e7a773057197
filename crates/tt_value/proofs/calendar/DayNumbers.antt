-- The day numbers of the calendar are those of the library that computes dates.
use Rattle.std.proofs.Common.{◌≡◌, ℕ, zero, suc, ◌+◌, ◌<◌, ◌≤◌, refl, sym, ap, subst, ◌∙◌, arith, inl, inr, ℤ, pos, negsuc, neg_ℤ, ◌+ℤ◌, ◌≤ℤ◌, unsigned_abs}
use Rattle.std.proofs.lemmas.Bool.{cases_lt, lt-ltb, le-ltb, cond-true, cond-false}
use Rattle.jiff_core.specs.declared.civil.date.Date.{Date}
use Rattle.jiff_core.specs.Calendar.{day_count, days_from_civil}
use Rattle.jiff_core.specs.Calendar.{days_in_month as month_length}
use Rattle.jiff_core.specs.Date.{epoch_day}
use Rattle.jiff_core.proofs.SignedLemmas.{signed_arith}
use Rattle.jiff_core.proofs.MarchLemmas.{day_count-early}
use Rattle.jiff_core.proofs.CalendarLemmas.{days_from_civil-day_count, day_count-later_year, day_count-next_year, day_count-end, day_count-day_of_year, day_count_bounds}
use Rattle.jiff_core.proofs.DateLemmas.{days_from_civil-day, days_from_civil-next_month, days_from_civil-next_year, epoch_day_injective}
use Rattle.tt_value.specs.calendar.Calendar.{CivilDate, IsCivil, days_in_month, next_date, date_after, date_of, IsDay}

-- a date of the year 1 or later
pub record IsLater (d : CivilDate) : Type 0 where
  pub year : 1 ≤ d.year
  pub month : (1 ≤ d.month) × (d.month ≤ 12)
  pub day : (1 ≤ d.day) × (d.day ≤ days_in_month d.year d.month)

-- the library's day number
abbrev pub number : CivilDate → ℤ
number d = days_from_civil (pos d.year) d.month d.day

pub same_months : (y m : ℕ) → month_length (pos y) m ≡ days_in_month y m
same_months y m = refl

pub first_count : day_count (pos 1) 1 1 ≡ 3652791
first_count = day_count-early (pos 1) 10000 1 1 refl (omega arith) (omega arith) (omega arith)

pub number-first : number (record { year = 1; month = 1; day = 1 }) ≡ neg_ℤ (pos 719162)
number-first = omega (arith, signed_arith, days_from_civil-day_count (pos 1) 1 1, first_count)

-- the day after has the next number
abbrev Follows : CivilDate → CivilDate → Type 0
Follows d e = IsLater e × (number e ≡ number d +ℤ pos 1)

pub short_months : (y m : ℕ) → (1 ≤ days_in_month y m) × (days_in_month y m ≤ 31)
short_months y m = grind arith

next_day : (d : CivilDate) → IsLater d → d.day < days_in_month d.year d.month → Follows d (record { year = d.year; month = d.month; day = d.day + 1 })
next_day d later lt = (record { year = later.year; month = later.month; day = (omega arith, omega arith) }, omega (arith, signed_arith, days_from_civil-day (pos d.year) d.month d.day (d.day + 1) later.day.0 (omega arith)))

next_month : (d : CivilDate) → IsLater d → days_in_month d.year d.month ≤ d.day → d.month < 12 → Follows d (record { year = d.year; month = d.month + 1; day = 1 })
next_month d later ge lt =
    let last : d.day ≡ days_in_month d.year d.month = omega (arith, later.day.1) in
    (record { year = later.year; month = (omega arith, omega arith); day = (omega arith, (short_months d.year (d.month + 1)).0) }, days_from_civil-next_month (pos d.year) d.month d.day later.month.0 last)

december : (y m : ℕ) → m ≡ 12 → days_in_month y m ≡ 31
december y m e = rw e refl

next_year : (d : CivilDate) → IsLater d → days_in_month d.year d.month ≤ d.day → 12 ≤ d.month → Follows d (record { year = d.year + 1; month = 1; day = 1 })
next_year d later ge high =
    let month : d.month ≡ 12 = omega (arith, later.month.1) in
    let day : d.day ≡ 31 = omega (arith, later.day.1, december d.year d.month month) in
    let last : number d ≡ days_from_civil (pos d.year) 12 31 = ap (λ (m : ℕ). days_from_civil (pos d.year) m d.day) month ∙ ap (days_from_civil (pos d.year) 12) day in
    (record { year = omega arith; month = (omega arith, omega arith); day = (omega arith, (short_months (d.year + 1) 1).0) }, days_from_civil-next_year (pos d.year) (pos (d.year + 1)) (omega (arith, signed_arith)) (omega (arith, signed_arith)) ∙ ap (λ (z : ℤ). z +ℤ pos 1) (sym last))

follows : (d : CivilDate) → IsLater d → Follows d (next_date d)
follows d later =
    elim (cases_lt d.day (days_in_month d.year d.month)) [
      | inl lt ↦ subst (Follows d) (sym (cond-true _ _ _ (lt-ltb d.day (days_in_month d.year d.month) lt))) (next_day d later lt)
      | inr ge ↦ subst (Follows d) (sym (cond-false _ _ _ (le-ltb d.day (days_in_month d.year d.month) ge))) (elim (cases_lt d.month 12) [
        | inl lt ↦ subst (Follows d) (sym (cond-true _ _ _ (lt-ltb d.month 12 lt))) (next_month d later ge lt)
        | inr high ↦ subst (Follows d) (sym (cond-false _ _ _ (le-ltb d.month 12 high))) (next_year d later ge high)
      ])
    ]

counted : (days : ℕ) → IsLater (date_after days) × (number (date_after days) ≡ pos days +ℤ neg_ℤ (pos 719162))
unfolding date_after
counted zero = (record { year = omega arith; month = (omega arith, omega arith); day = (omega arith, omega arith) }, number-first)
counted (suc days) =
    let so_far = counted days in
    let next = follows (date_after days) so_far.0 in
    (next.0, omega (arith, signed_arith, next.1, so_far.1))

-- the year of a date with few enough days before it
year_within : (d : CivilDate) → IsLater d → number d ≤ℤ pos 2932896 → d.year ≤ 9999
year_within d later high =
    elim (cases_lt 9999 d.year) [
      | inl lt ↦ absurd (omega (arith, signed_arith, days_from_civil-day_count (pos d.year) d.month d.day, day_count-later_year (pos 9999) (pos d.year) (omega (arith, signed_arith)) (omega (arith, signed_arith)), day_count-next_year (pos 9999) (pos 10000) (omega (arith, signed_arith)) refl, day_count-end, day_count-day_of_year (pos d.year) d.month d.day later.day.0))
      | inr le ↦ le
    ]

nonnegative : (z : ℤ) → pos 0 ≤ℤ z → pos (unsigned_abs z) ≡ z
nonnegative (pos n) le = refl
nonnegative (negsuc n) le = absurd (omega (arith, signed_arith, le))

moved_back : (z : ℤ) → z +ℤ pos 719162 +ℤ neg_ℤ (pos 719162) ≡ z
moved_back z = omega (arith, signed_arith)

-- a day number's date, and its number
pub numbered : (day : ℤ) → IsDay day → IsCivil (date_of day) × (number (date_of day) ≡ day)
numbered day within =
    let n = unsigned_abs (day +ℤ pos 719162) in
    let there = nonnegative (day +ℤ pos 719162) (omega (arith, signed_arith, within.0)) in
    let back : pos n +ℤ neg_ℤ (pos 719162) ≡ day = ap (λ (z : ℤ). z +ℤ neg_ℤ (pos 719162)) there ∙ moved_back day in
    let c = counted n in
    let is : number (date_of day) ≡ day = c.1 ∙ back in
    (record { year = (c.0.year, year_within (date_of day) c.0 (omega (arith, signed_arith, is, within.1))); month = c.0.month; day = c.0.day }, is)

-- a date of the calendar as the library has it
lib_date : (d : CivilDate) → IsCivil d → Date
lib_date d civil = record {
  year = pos d.year;
  month = d.month;
  day = d.day;
  year_in = (omega (arith, signed_arith), omega (arith, signed_arith, civil.year.1));
  month_in = civil.month;
  day_in = civil.day;
}

abbrev pub made : ℕ → ℕ → ℕ → CivilDate
made year month day = record { year = year; month = month; day = day }

pub same_parts : (d e : CivilDate) → d.year ≡ e.year → d.month ≡ e.month → d.day ≡ e.day → d ≡ e
same_parts d e year month day = ap (λ (y : ℕ). made y d.month d.day) year ∙ ap (λ (m : ℕ). made e.year m d.day) month ∙ ap (made e.year e.month) day

pub one_number : (d e : CivilDate) → IsCivil d → IsCivil e → number d ≡ number e → d ≡ e
unfolding lib_date
one_number d e civil civil' same =
    let parts = epoch_day_injective (lib_date d civil) (lib_date e civil') same in
    same_parts d e (omega (arith, signed_arith, parts.0)) parts.1 parts.2

-- the day of a date
pub day_is : (d : CivilDate) (day : ℤ) → IsCivil d → number d ≡ day → IsDay day × (date_of day ≡ d)
day_is d day civil is =
    let bounds = day_count_bounds (pos d.year) d.month d.day ((omega (arith, signed_arith), omega (arith, signed_arith, civil.year.1)), civil.month, civil.day) in
    let low : 3652791 ≤ day_count (pos d.year) 1 1 = elim (cases_lt 1 d.year) [
      | inl lt ↦ omega (arith, first_count, day_count-later_year (pos 1) (pos d.year) (omega (arith, signed_arith)) (omega (arith, signed_arith)))
      | inr le ↦ (let one : d.year ≡ 1 = omega (arith, civil.year.0) in rw one (omega (arith, first_count)))
    ] in
    let within : IsDay day = (omega (arith, signed_arith, is, low, days_from_civil-day_count (pos d.year) d.month d.day, day_count-day_of_year (pos d.year) d.month d.day civil.day.0, civil.day.0), omega (arith, signed_arith, is, bounds.1, days_from_civil-day_count (pos d.year) d.month d.day)) in
    let found = numbered day within in
    (within, one_number (date_of day) d found.0 civil (found.1 ∙ sym is))

pub one_day : (a b : ℤ) → IsDay a → IsDay b → date_of a ≡ date_of b → a ≡ b
one_day a b in_a in_b same = sym (numbered a in_a).1 ∙ ap number same ∙ (numbered b in_b).1

pub day_zero : date_of (pos 0) ≡ record { year = 1970; month = 1; day = 1 }
day_zero =
    let d : CivilDate = record { year = 1970; month = 1; day = 1 } in
    let civil : IsCivil d = record { year = (omega arith, omega arith); month = (omega arith, omega arith); day = (omega arith, omega arith) } in
    (day_is d (pos 0) civil (omega (arith, signed_arith, days_from_civil-day_count (pos 1970) 1 1, day_count-early (pos 1970) 11969 1 1 refl (omega arith) (omega arith) (omega arith)))).1

-- the parts of the library's date of a day
pub parts_of : (d : Date) (z : ℤ) → IsDay z → epoch_day d ≡ z → (d.year ≡ pos (date_of z).year) × (d.month ≡ (date_of z).month) × (d.day ≡ (date_of z).day)
unfolding lib_date
parts_of d z within is =
    let found = numbered z within in
    let same = epoch_day_injective d (lib_date (date_of z) found.0) (is ∙ sym found.1) in
    (same.0, same.1, same.2)
