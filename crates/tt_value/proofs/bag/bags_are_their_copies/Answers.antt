use Rattle.tt_value.proofs.values.Bags.{bags_same}
use Rattle.tt_value.proofs.bag.bags_are_their_copies.Goals as goal

pub returns : goal.returns
returns c = bags_same
