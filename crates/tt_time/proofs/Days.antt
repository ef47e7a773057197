-- The dates that the library reads are those of the calendar.
use Rattle.std.proofs.Common.{◌≡◌, ℕ, ◌≤◌, sym, ap, subst, ◌∙◌, arith, ℤ, pos, w8, w16, to_z}
use Rattle.std.proofs.lemmas.Int.{to_z_pos}
use Rattle.jiff_core.specs.declared.civil.date.Date.{Date}
use Rattle.jiff_core.specs.Calendar.{days_from_civil, IsCivilDate, IsDate}
use Rattle.jiff_core.specs.Date.{epoch_day, IsYmd}
use Rattle.jiff_core.proofs.SignedLemmas.{signed_arith}
use Rattle.tt_value.specs.calendar.Calendar.{IsCivil, date_of, IsDay}
use Rattle.tt_value.proofs.calendar.DayNumbers.{number, made, same_months, numbered, day_is}

-- a date that the library refuses is no day's
pub refused : (y m a : ℕ) (n : ℤ) → y ≤ 9999 → m ≤ 99 → a ≤ 99 → IsDay n → date_of n ≡ record { year = y; month = m; day = a } → IsDate (to_z w16 y) (to_z w8 m) (to_z w8 a)
refused y m a n ly lm la within e =
    let civil : IsCivil (made y m a) = subst IsCivil e (numbered n within).0 in
    rw (to_z_pos w16 y (omega arith), to_z_pos w8 m (omega arith), to_z_pos w8 a (omega arith))
    ((omega (arith, signed_arith), omega (arith, signed_arith, civil.year.1)), (omega (arith, signed_arith, civil.month.0), omega (arith, signed_arith, civil.month.1)), (omega (arith, signed_arith, civil.day.0), omega (arith, signed_arith, civil.day.1, same_months y m)))

-- a date of the library from the year 1 on, by its parts
by_parts : (year : ℤ) (month day y m a : ℕ) (z : ℤ) → IsCivilDate year month day → days_from_civil year month day ≡ z → 1 ≤ y → year ≡ pos y → month ≡ m → day ≡ a → IsDay z × (date_of z ≡ record { year = y; month = m; day = a })
by_parts year month day y m a z civil is first year_is month_is day_is' =
    let civil' : IsCivilDate (pos y) m a = subst (λ (t : ℤ). IsCivilDate t m a) year_is (subst (λ (t : ℕ). IsCivilDate year t a) month_is (subst (λ (t : ℕ). IsCivilDate year month t) day_is' civil)) in
    let is' : number (made y m a) ≡ z = ap (λ (t : ℤ). days_from_civil t m a) (sym year_is) ∙ ap (λ (t : ℕ). days_from_civil year t a) (sym month_is) ∙ ap (days_from_civil year month) (sym day_is') ∙ is in
    day_is (made y m a) z (record { year = (first, omega (arith, signed_arith, civil'.0.1)); month = civil'.1; day = civil'.2 }) is'

pub accepted : (d : Date) (y m a : ℕ) (z : ℤ) → y ≤ 9999 → m ≤ 99 → a ≤ 99 → (y ≡ 0 → ⊥) → IsYmd (to_z w16 y) (to_z w8 m) (to_z w8 a) d → z ≡ epoch_day d → IsDay z × (date_of z ≡ record { year = y; month = m; day = a })
accepted d y m a z ly lm la some parts is =
    let year : d.year ≡ pos y = parts.0 ∙ to_z_pos w16 y (omega arith) in
    let month : pos d.month ≡ pos m = parts.1 ∙ to_z_pos w8 m (omega arith) in
    let day : pos d.day ≡ pos a = parts.2 ∙ to_z_pos w8 a (omega arith) in
    by_parts d.year d.month d.day y m a z (d.year_in, d.month_in, d.day_in) (sym is) (omega (arith, some)) year (omega (arith, signed_arith, month)) (omega (arith, signed_arith, day))
