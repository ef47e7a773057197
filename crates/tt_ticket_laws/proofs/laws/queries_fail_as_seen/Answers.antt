use Rattle.tt_ticket_laws.proofs.Answered.{failed}
use Rattle.tt_ticket_laws.proofs.laws.queries_fail_as_seen.Goals as goal

pub returns : goal.returns
returns c = λ chronicle ticket q known e. failed chronicle ticket q known.is known.alone known.typed e
