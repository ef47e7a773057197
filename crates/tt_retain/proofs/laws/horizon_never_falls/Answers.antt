use Rattle.tt_retain.proofs.HorizonLaws.{horizon_grows}
use Rattle.tt_retain.proofs.laws.horizon_never_falls.Goals as goal

pub returns : goal.returns
returns c = horizon_grows
