use Rattle.tt_scan.proofs.Columns.{are_of_kind}
use Rattle.tt_scan.proofs.picking.column_at.Goals as goal

pub returns-clause-values : goal.returns-clause-values
returns-clause-values c = c.in_ok-column.ensures.values

pub returns-clause-kind : goal.returns-clause-kind
returns-clause-kind c = are_of_kind c.args.partition.now c.args.place c.in_ok-column.column c.is_part.ensures c.in_ok-column.ensures
