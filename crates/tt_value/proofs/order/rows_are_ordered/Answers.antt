use Rattle.tt_value.specs.values.TotalOrder.{row_total}
use Rattle.tt_value.proofs.values.Ties.{row_same}
use Rattle.tt_value.proofs.order.rows_are_ordered.Goals as goal

pub returns-clause-total : goal.returns-clause-total
returns-clause-total c = row_total

pub returns-clause-ties : goal.returns-clause-ties
returns-clause-ties c = row_same
