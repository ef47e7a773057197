use Rattle.tt_plain_laws.proofs.guard.Histories.{legal_isolated}
use Rattle.tt_plain_laws.proofs.isolation.legal_histories_are_isolated.Goals as goal

pub returns : goal.returns
returns c = legal_isolated
