use Rattle.tt_owner.proofs.Sharing.{owner_known}
use Rattle.tt_owner.proofs.laws.owners_are_tables.Goals as goal

pub returns : goal.returns
returns c = owner_known
