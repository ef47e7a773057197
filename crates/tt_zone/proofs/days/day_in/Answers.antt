use Rattle.std.proofs.Common.{sym, ◌∙◌}
use Rattle.tt_zone.proofs.DatesByParts.{no_signs, no_year, no_month, no_day_part, whole_day}
use Rattle.tt_zone.proofs.days.day_in.Goals as goal

pub returns-then-not-has_signs : goal.returns-then-not-has_signs
returns-then-not-has_signs c = no_signs c.args.text.now (sym c.has_signs.ensures ∙ c.if-not-has_signs.true)

pub returns-in_err-year : goal.returns-in_err-year
returns-in_err-year c = c.from_residual.ensures ∙ no_year c.args.text.now c.number_in.result c.number_in.ensures c.in_err-year.was

pub returns-in_err-month : goal.returns-in_err-month
returns-in_err-month c = c.from_residual-in_err-month.ensures ∙ no_month c.args.text.now c.number_in-2.result c.number_in-2.ensures c.in_err-month.was

pub returns-in_err-day : goal.returns-in_err-day
returns-in_err-day c = c.from_residual-in_err-day.ensures ∙ no_day_part c.args.text.now c.number_in-3.result (sym c.has_signs.ensures ∙ c.if-not-has_signs.false) c.number_in-3.ensures c.in_err-day.was

pub returns : goal.returns
returns c =
    c.day_of_date.ensures
    ∙ whole_day c.args.text.now c.number_in.result c.number_in-2.result c.number_in-3.result c.in_ok-year.year c.in_ok-month.month c.in_ok-day.day (sym c.has_signs.ensures ∙ c.if-not-has_signs.false) c.number_in.ensures c.in_ok-year.was c.number_in-2.ensures c.in_ok-month.was c.number_in-3.ensures c.in_ok-day.was
