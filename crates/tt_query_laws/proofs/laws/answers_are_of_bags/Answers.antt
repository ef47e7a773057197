use Rattle.tt_query_laws.proofs.Bags.{rearranged_bag}
use Rattle.tt_query_laws.proofs.Groups.{answer_same}
use Rattle.tt_query_laws.proofs.laws.answers_are_of_bags.Goals as goal

pub returns : goal.returns
returns c = λ scope q rows others known fits same. answer_same scope q rows others fits (rearranged_bag rows others same)
