use Rattle.tt_retain.proofs.HorizonLaws.{horizon_stays}
use Rattle.tt_retain.proofs.laws.past_horizons_stay.Goals as goal

pub returns-clause-regime : goal.returns-clause-regime
returns-clause-regime c = horizon_stays

pub returns-clause-end : goal.returns-clause-end
returns-clause-end c = λ table moment s h. horizon_stays table moment 0 s h
