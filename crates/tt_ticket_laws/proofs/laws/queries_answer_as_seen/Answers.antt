use Rattle.tt_ticket_laws.proofs.Answered.{answered}
use Rattle.tt_ticket_laws.proofs.laws.queries_answer_as_seen.Goals as goal

pub returns : goal.returns
returns c = λ chronicle ticket q known rows e. answered chronicle ticket q known.is known.alone known.typed rows e
