use Rattle.std.proofs.Common.{◌≡◌, map}
use Rattle.std.specs.List.{AllByRecursion, range_with_len}
use Rattle.tt_zone.specs.Zones.{column_at}
use Rattle.tt_partition.specs.ColumnView.{column_values, IsValues}
use Rattle.tt_scan.proofs.picking.all_columns.Given as goal

abbrev pub invariant-loop-place : goal.invariant-loop-place
invariant-loop-place l = (map column_values l.columns.items ≡ map (λ k. column_at k l.partition.rows) (range_with_len 0 l.place)) × AllByRecursion IsValues l.columns.items
