use Rattle.std.proofs.Common.{ap, ◌∙◌, arith, FitsSigned, w32}
use Rattle.std.proofs.lemmas.Bool.{false≢true}
use Rattle.std.proofs.lemmas.Int.{to_z-of_z}
use Rattle.jiff_core.specs.Date.{epoch_day}
use Rattle.jiff_core.proofs.SignedLemmas.{signed_arith}
use Rattle.tt_value.specs.calendar.Calendar.{CivilDate}
use Rattle.tt_value.proofs.calendar.DayNumbers.{numbered}
use Rattle.tt_time.proofs.Days.{refused, accepted}
use Rattle.tt_time.proofs.dates.day_number.Goals as goal

pub returns-then-year-eq0-clause-none : goal.returns-then-year-eq0-clause-none
returns-then-year-eq0-clause-none c = λ n within e. omega (arith, ap (λ (d : CivilDate). d.year) e, (numbered n within).0.year.0)

pub returns-in-Err-clause-none : goal.returns-in-Err-clause-none
returns-in-Err-clause-none c = λ n within e. false≢true (c.in-Err.ensures.succeeds.1 (refused c.args.year c.args.month c.args.day n c.requires.year_in c.requires.month_in c.requires.day_in within e))

pub returns-in-Ok-clause-found : goal.returns-in-Ok-clause-found
returns-in-Ok-clause-found c =
    let fits : FitsSigned w32 c.to_unix_epoch_day.result = omega (arith, signed_arith, c.to_unix_epoch_day.ensures.bound.0, c.to_unix_epoch_day.ensures.bound.1) in
    let is = c.to_unix_epoch_day.ensures.value ∙ ap epoch_day c.to_plain.ensures in
    rw (to_z-of_z w32 c.to_unix_epoch_day.result fits) (accepted c.in-Ok.date c.args.year c.args.month c.args.day c.to_unix_epoch_day.result c.requires.year_in c.requires.month_in c.requires.day_in c.if-year-eq0.false c.in-Ok.ensures.value is)
