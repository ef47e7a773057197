use Rattle.tt_scan.proofs.Columns.{one_more_column}
use Rattle.tt_scan.proofs.picking.all_columns.Goals as goal

pub loop-place-preserved : goal.loop-place-preserved
loop-place-preserved c = one_more_column c.args.partition.now.rows c.loop-place.columns.items c.push.new.self.items c.in_ok-column.column c.loop-place.place c.in_ok-push.ensures.items c.loop-place.invariant c.in_ok-column.ensures.values c.in_ok-column.ensures.kind
