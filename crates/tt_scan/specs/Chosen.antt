-- Rows chosen by bits.
use Rattle.std.specs.Prelude.{◌≡◌, Bool, true, false, List, [], ◌∷◌, length, map, Option, Some, None}
use Rattle.std.specs.List.{AllByRecursion, range_with_len}
use Rattle.tt_zone.specs.Zones.{column_at}
use Rattle.tt_partition.specs.declared.column.ColumnValues.{ColumnValues}
use Rattle.tt_partition.specs.ColumnView.{column_values, IsValues}
use Rattle.tt_partition.specs.Table.{Table}
use Rattle.tt_value.specs.declared.value.Row.{Row}

-- the rows whose bits are set
abbrev pub chosen : List Bool → List Row → List Row
chosen [] rows = []
chosen (bit ∷ bits) [] = []
chosen (true ∷ bits) (row ∷ rows) = row ∷ chosen bits rows
chosen (false ∷ bits) (row ∷ rows) = chosen bits rows

-- the row, if its bit is there and set
abbrev pub if_set : Option Bool → Row → List Row
if_set None row = []
if_set (Some false) row = []
if_set (Some true) row = row ∷ []

-- the columns of a table in their order, each with values of its kind
pub record AreColumnsOf (table : Table) (columns : List ColumnValues) : Type 0 where
  pub values : map column_values columns ≡ map (λ k. column_at k table.rows) (range_with_len 0 (length table.kinds))
  pub kinds : AllByRecursion IsValues columns
