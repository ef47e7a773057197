-- The orders of values and rows are total, as the library asks of an order.
use Rattle.std.proofs.Common.{rules}
use Rattle.std.specs.Cmp.{IsTotalOrder}
use Rattle.std.specs.Cmp.Rules.{comparing}
use Rattle.tt_value.specs.values.Order.{value_cmp, row_cmp}

pub value_total : IsTotalOrder value_cmp
unfolding value_cmp
value_total = search (comparing, rules)

pub row_total : IsTotalOrder row_cmp
unfolding row_cmp
row_total = search (comparing, value_total, rules)
