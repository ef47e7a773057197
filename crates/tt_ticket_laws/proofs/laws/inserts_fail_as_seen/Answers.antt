use Rattle.tt_ticket_laws.proofs.Inserted.{failed}
use Rattle.tt_ticket_laws.proofs.laws.inserts_fail_as_seen.Goals as goal

pub returns : goal.returns
returns c = λ chronicle ticket insert held is target typed. failed chronicle ticket insert held target is typed
