use Rattle.std.proofs.Common.{subst, sym}
use Rattle.tt_value.specs.values.Bags.{IsBag}
use Rattle.tt_value.proofs.values.Bags.{IsBag-bag_minus}
use Rattle.tt_value.proofs.bag.Bag.minus.Goals as goal

pub invariant_of-result : goal.invariant_of-result
invariant_of-result c =
    let sorted = subst IsBag (sym c.rows.ensures.value) c.rows.ensures.sorted in
    rw c.in_ok-rows.ensures (IsBag-bag_minus c.rows.result.now c.rows-2.result.now sorted)
