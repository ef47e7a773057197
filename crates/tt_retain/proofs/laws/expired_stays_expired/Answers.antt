use Rattle.tt_retain.proofs.HorizonLaws.{expired_stays}
use Rattle.tt_retain.proofs.laws.expired_stays_expired.Goals as goal

pub returns : goal.returns
returns c = expired_stays
