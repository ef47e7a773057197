use Rattle.tt_plain.proofs.law.Clock.{legal_in_time}
use Rattle.tt_plain.proofs.store_laws.legal_histories_stay_in_time.Goals as goal

pub returns : goal.returns
returns c = legal_in_time
