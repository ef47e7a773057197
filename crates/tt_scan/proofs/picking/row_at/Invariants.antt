use Rattle.std.proofs.Common.{◌≡◌, List, map, take}
use Rattle.std.specs.Prelude.{slice_get}
use Rattle.tt_value.specs.declared.value.Value.{Value}
use Rattle.tt_value.specs.trees.Scope.{value_or_null}
use Rattle.tt_partition.specs.ColumnView.{column_values}
use Rattle.tt_scan.proofs.picking.row_at.Given as goal

abbrev pub invariant-loop-column : goal.invariant-loop-column
invariant-loop-column l = l.values.items ≡ map (λ (column : List Value). value_or_null (slice_get column l.at)) (map column_values (take l.column-index l.columns))
