use Rattle.tt_query_laws.proofs.Changes.{update_alike}
use Rattle.tt_query_laws.proofs.laws.updates_are_of_bags.Goals as goal

pub returns : goal.returns
returns c = update_alike
