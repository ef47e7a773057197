use Rattle.tt_run.proofs.TurnsLaws.{made_answers}
use Rattle.tt_run.proofs.session.refuse_text.Goals as goal

pub returns : goal.returns
returns c = made_answers _ _ _ _ _ _ tt c.refuse_text.ensures.entry
