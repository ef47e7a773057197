use Rattle.std.proofs.Common.{◌∷◌, ◌++◌, sym, ◌∙◌}
use Rattle.tt_value.specs.calendar.Calendar.{date_of, two_digits}
use Rattle.tt_time.proofs.Spelling.{four_one, two_one, cons_tail, day_writable, after_year}
use Rattle.tt_time.proofs.dates.date_at.Goals as goal

pub returns-in_err-year-clause-none : goal.returns-in_err-year-clause-none
returns-in_err-year-clause-none c =
    rw c.from_residual.ensures (λ day rest within e. c.in_err-year.ensures.none (date_of day).year (45 ∷ after_year (date_of day) rest) (day_writable day within).year e)

pub returns-in_err-month-clause-none : goal.returns-in_err-month-clause-none
returns-in_err-month-clause-none c =
    rw c.from_residual-in_err-month.ensures (λ day rest within e.
    let w = day_writable day within in
    let y = four_one c.in_ok-year.year (date_of day).year c.in_ok-year.rest.now (45 ∷ after_year (date_of day) rest) c.in_ok-year.ensures.found.0 w.year (sym c.in_ok-year.ensures.found.1 ∙ e) in
    c.in_err-month.ensures.none (date_of day).month (45 ∷ (two_digits (date_of day).day ++ rest)) w.month (cons_tail 45 45 _ _ (sym c.in_ok-rest.ensures.found ∙ y.1)))

pub returns-in_err-day-clause-none : goal.returns-in_err-day-clause-none
returns-in_err-day-clause-none c =
    rw c.from_residual-in_err-day.ensures (λ day rest within e.
    let w = day_writable day within in
    let y = four_one c.in_ok-year.year (date_of day).year c.in_ok-year.rest.now (45 ∷ after_year (date_of day) rest) c.in_ok-year.ensures.found.0 w.year (sym c.in_ok-year.ensures.found.1 ∙ e) in
    let m = two_one c.in_ok-month.month (date_of day).month c.in_ok-month.rest.now (45 ∷ (two_digits (date_of day).day ++ rest)) c.in_ok-month.ensures.found.0 w.month (sym c.in_ok-month.ensures.found.1 ∙ cons_tail 45 45 _ _ (sym c.in_ok-rest.ensures.found ∙ y.1)) in
    c.in_err-day.ensures.none (date_of day).day rest w.day (cons_tail 45 45 _ _ (sym c.in_ok-rest-2.ensures.found ∙ m.1)))
