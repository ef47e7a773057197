use Rattle.std.proofs.Common.{◌≡◌, ◌-◌, map}
use Rattle.tt_value.specs.columns.Reading.{values_at}
use Rattle.tt_value.proofs.columns.Loops.{with_front}
use Rattle.tt_partition.specs.ColumnView.{column_view}
use Rattle.tt_partition.specs.ImageReading.{column_at, no_order}
use Rattle.tt_partition.proofs.reading.read_columns.Given as goal

abbrev pub invariant-loop-turn : goal.invariant-loop-turn
invariant-loop-turn l = with_front (map column_view l.columns.items) (values_at (column_at l.rows) no_order l.end (l.count - l._turn) l.rest) ≡ values_at (column_at l.rows) no_order l.end l.count l.bytes
