use Rattle.tt_query_laws.proofs.Changes.{delete_alike}
use Rattle.tt_query_laws.proofs.laws.deletes_are_of_bags.Goals as goal

pub returns : goal.returns
returns c = delete_alike
