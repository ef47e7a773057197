use Rattle.tt_plain.proofs.law.Histories.{legal_sound}
use Rattle.tt_plain.proofs.store_laws.legal_histories_are_sound.Goals as goal

pub returns : goal.returns
returns c = legal_sound
