use Rattle.tt_ticket_laws.proofs.Updated.{failed}
use Rattle.tt_ticket_laws.proofs.laws.updates_fail_as_seen.Goals as goal

pub returns : goal.returns
returns c = λ chronicle ticket update held is target. failed chronicle ticket update held target is
