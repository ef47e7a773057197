use Rattle.std.proofs.Common.{map}
use Rattle.std.proofs.lemmas.Result.{err_from_is_err_and}
use Rattle.std.proofs.lemmas.List.{map-append}
use Rattle.tt_value.proofs.columns.Loops.{values_more, values_fault, values_done}
use Rattle.tt_partition.specs.ColumnView.{column_view}
use Rattle.tt_partition.specs.ImageReading.{column_at, no_order}
use Rattle.tt_partition.proofs.Faults.{passes_on}
use Rattle.tt_partition.proofs.reading.read_columns.Goals as goal

pub returns-in_err-column : goal.returns-in_err-column
returns-in_err-column c =
    let p = err_from_is_err_and c.from_residual-in_err-column.result c.from_residual-in_err-column.ensures.1 in
    rw (p.1, p.2) (passes_on c.in_err-column.field-0.0 _ _ c.in_err-column.ensures (λ place e. values_fault (column_at c.args.rows) no_order c.args.end (map column_view c.loop-turn.columns.items) c.args.count c.loop-turn._turn c.loop-turn.rest.now place _ c.loop-turn-test.true e c.loop-turn.invariant))

pub loop-turn-preserved : goal.loop-turn-preserved
loop-turn-preserved c =
    rw (c.in_ok-push.ensures.items, map-append) (values_more (column_at c.args.rows) no_order c.args.end (map column_view c.loop-turn.columns.items) c.args.count c.loop-turn._turn c.loop-turn.rest.now (column_view c.in_ok-column.column) c.in_ok-column.after.now _ c.loop-turn-test.true c.in_ok-column.ensures c.loop-turn.invariant)

pub returns : goal.returns
returns c = values_done (column_at c.args.rows) no_order c.args.end (map column_view c.loop-turn.columns.items) c.args.count c.loop-turn._turn c.loop-turn.rest.now _ c.loop-turn-test.false c.loop-turn.invariant
