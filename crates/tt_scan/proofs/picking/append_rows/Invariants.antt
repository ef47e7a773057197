use Rattle.std.proofs.Common.{◌≡◌, ◌-◌, ◌++◌, drop, length, map}
use Rattle.std.specs.List.{range_with_len}
use Rattle.tt_partition.specs.ColumnView.{column_values}
use Rattle.tt_partition.specs.Table.{row_of}
use Rattle.tt_scan.specs.Chosen.{chosen}
use Rattle.tt_scan.proofs.picking.append_rows.Given as goal

-- what is chosen of the rows that are left comes behind
abbrev pub invariant-loop-at : goal.invariant-loop-at
invariant-loop-at l = l.rows.items ++ chosen (drop l.at l.bits) (map (row_of (map column_values l.columns)) (range_with_len l.at (length l.bits - l.at))) ≡ l.fn.rows.items ++ chosen l.bits (map (row_of (map column_values l.columns)) (range_with_len 0 (length l.bits)))
