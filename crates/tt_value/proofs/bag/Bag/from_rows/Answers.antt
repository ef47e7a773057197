use Rattle.tt_value.proofs.values.Bags.{IsBag-from_sort, bag_of-from_sort}
use Rattle.tt_value.proofs.bag.Bag.from_rows.Goals as goal

pub invariant_of-result : goal.invariant_of-result
invariant_of-result c = IsBag-from_sort _ c.in_ok-sort.ensures.sorted

pub returns-clause-value : goal.returns-clause-value
returns-clause-value c = bag_of-from_sort _ _ c.in_ok-sort.ensures.permutation c.in_ok-sort.ensures.sorted

pub returns-clause-sorted : goal.returns-clause-sorted
returns-clause-sorted c = IsBag-from_sort _ c.in_ok-sort.ensures.sorted
