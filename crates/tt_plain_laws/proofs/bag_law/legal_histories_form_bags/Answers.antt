use Rattle.tt_plain_laws.proofs.bag_law.legal_histories_form_bags.Goals as goal
use Rattle.tt_plain_laws.proofs.entry.Histories.{legal_bags}

pub returns : goal.returns
returns c = legal_bags
