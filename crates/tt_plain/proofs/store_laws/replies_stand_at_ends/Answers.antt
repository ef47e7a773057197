use Rattle.tt_plain.proofs.law.Clock.{replies_stand}
use Rattle.tt_plain.proofs.store_laws.replies_stand_at_ends.Goals as goal

pub returns : goal.returns
returns c = replies_stand
