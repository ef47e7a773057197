use Rattle.tt_value.proofs.values.Bags.{copies_of-bag_of, copies_of-bag_plus, copies_of-bag_minus, IsBag-bag_of, IsBag-bag_minus}
use Rattle.tt_value.proofs.bag.bags_keep_copies.Goals as goal

pub returns-clause-of : goal.returns-clause-of
returns-clause-of c = copies_of-bag_of

pub returns-clause-plus : goal.returns-clause-plus
returns-clause-plus c = copies_of-bag_plus

pub returns-clause-minus : goal.returns-clause-minus
returns-clause-minus c = copies_of-bag_minus

pub returns-clause-of_sorted : goal.returns-clause-of_sorted
returns-clause-of_sorted c = IsBag-bag_of

pub returns-clause-minus_sorted : goal.returns-clause-minus_sorted
returns-clause-minus_sorted c = IsBag-bag_minus
