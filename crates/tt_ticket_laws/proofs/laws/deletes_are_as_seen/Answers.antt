use Rattle.tt_ticket_laws.proofs.Replaced.{deleted}
use Rattle.tt_ticket_laws.proofs.laws.deletes_are_as_seen.Goals as goal

pub returns : goal.returns
returns c = λ chronicle ticket delete held is target b deletes. deleted chronicle ticket delete held target is b deletes
