use Rattle.std.proofs.Common.{◌++◌}
use Rattle.tt_value.proofs.values.Bags.{IsBag-bag_of}
use Rattle.tt_value.proofs.bag.Bag.plus.Goals as goal

pub invariant_of-result : goal.invariant_of-result
invariant_of-result c = rw c.in_ok-rows.ensures (IsBag-bag_of (c.rows.result.now ++ c.rows-2.result.now))
