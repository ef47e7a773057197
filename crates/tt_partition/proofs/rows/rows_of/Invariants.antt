use Rattle.std.proofs.Common.{◌≡◌, map}
use Rattle.std.specs.List.{range_with_len}
use Rattle.tt_partition.specs.Table.{row_of}
use Rattle.tt_partition.specs.ColumnView.{column_values}
use Rattle.tt_partition.proofs.rows.rows_of.Given as goal

abbrev pub invariant-loop-at : goal.invariant-loop-at
invariant-loop-at l = l.rows.items ≡ map (row_of (map column_values l.columns)) (range_with_len 0 l.at)
