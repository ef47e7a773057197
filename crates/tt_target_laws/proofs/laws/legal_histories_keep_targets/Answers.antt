use Rattle.tt_target_laws.proofs.Histories.{legal_targets}
use Rattle.tt_target_laws.proofs.laws.legal_histories_keep_targets.Goals as goal

pub returns : goal.returns
returns c = legal_targets
