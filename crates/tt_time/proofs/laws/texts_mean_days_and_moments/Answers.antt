use Rattle.tt_time.proofs.Functions.{day_law, moment_law}
use Rattle.tt_time.proofs.laws.texts_mean_days_and_moments.Goals as goal

pub returns-clause-day : goal.returns-clause-day
returns-clause-day c = day_law

pub returns-clause-moment : goal.returns-clause-moment
returns-clause-moment c = moment_law
