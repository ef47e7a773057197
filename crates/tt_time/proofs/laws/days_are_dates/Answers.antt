use Rattle.std.proofs.Common.{[], refl}
use Rattle.tt_value.proofs.calendar.DayNumbers.{number, day_is, day_zero, numbered, one_day}
use Rattle.tt_time.proofs.Spelling.{day_one}
use Rattle.tt_time.proofs.laws.days_are_dates.Goals as goal

pub returns-clause-zero : goal.returns-clause-zero
returns-clause-zero c = day_zero

pub returns-clause-date : goal.returns-clause-date
returns-clause-date c = λ day within. (numbered day within).0

pub returns-clause-day : goal.returns-clause-day
returns-clause-day c = λ date civil. let d = day_is date (number date) civil refl in (number date, d)

pub returns-clause-one : goal.returns-clause-one
returns-clause-one c = one_day

pub returns-clause-text : goal.returns-clause-text
returns-clause-text c = λ a b in_a in_b same. (day_one a b [] [] in_a in_b same).0
