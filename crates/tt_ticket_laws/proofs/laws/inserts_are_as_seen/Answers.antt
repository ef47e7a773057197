use Rattle.tt_ticket_laws.proofs.Inserted.{inserted}
use Rattle.tt_ticket_laws.proofs.laws.inserts_are_as_seen.Goals as goal

pub returns : goal.returns
returns c = λ chronicle ticket insert held is target typed b puts. inserted chronicle ticket insert held target is typed b puts
