use Rattle.tt_plain.proofs.law.LastEntry.{horizon_stays, past_stays}
use Rattle.tt_plain.proofs.store_laws.legal_histories_keep_the_past.Goals as goal

pub returns-clause-past : goal.returns-clause-past
returns-clause-past c = past_stays

pub returns-clause-horizons : goal.returns-clause-horizons
returns-clause-horizons c = horizon_stays
