use Rattle.tt_value.specs.values.TotalOrder.{value_total}
use Rattle.tt_value.proofs.values.Ties.{value_same}
use Rattle.tt_value.proofs.order.values_are_ordered.Goals as goal

pub returns-clause-total : goal.returns-clause-total
returns-clause-total c = value_total

pub returns-clause-ties : goal.returns-clause-ties
returns-clause-ties c = value_same
