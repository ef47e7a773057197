use Rattle.tt_ticket_laws.proofs.Updated.{updated}
use Rattle.tt_ticket_laws.proofs.laws.updates_are_as_seen.Goals as goal

pub returns : goal.returns
returns c = λ chronicle ticket update held is target b updates. updated chronicle ticket update held target is b updates
