-- Columns of a partition, each of them decoded or not yet.
use Rattle.std.specs.Prelude.{◌≡◌, ℕ, Bool, true, false, List, length, Option, Some, None, slice_get}
use Rattle.tt_value.specs.declared.value.Schema.{Schema}
use Rattle.tt_value.specs.declared.name.ColumnName.{ColumnName}
use Rattle.tt_value.specs.declared.predicate.Operand.{Operand}
use Rattle.tt_value.specs.declared.predicate.Operand.TheVariants as operand
use Rattle.tt_value.specs.trees.Scope.{table_scope}
use Rattle.tt_partition.specs.declared.column.ColumnValues.{ColumnValues}
use Rattle.tt_partition.specs.ColumnView.{IsColumnAt}
use Rattle.tt_partition.specs.Table.{Table}

abbrev pub column_is : List (Option ColumnValues) → ℕ → ColumnValues → Type 0
column_is columns place column = slice_get columns place ≡ Some (Some column)

-- one for each column of the table; what is decoded is the column of its place
pub record AreDecodedOf (table : Table) (columns : List (Option ColumnValues)) : Type 0 where
  pub long : length columns ≡ length table.kinds
  pub each : (place : ℕ) (column : ColumnValues) → column_is columns place column → IsColumnAt table place column

abbrev pub is_there : Option (Option ColumnValues) → Bool
is_there None = false
is_there (Some None) = false
is_there (Some (Some column)) = true

abbrev pub is_decoded : List (Option ColumnValues) → ℕ → Bool
is_decoded columns place = is_there (slice_get columns place)

-- what was decoded still is
abbrev pub Keeps : List (Option ColumnValues) → List (Option ColumnValues) → Type 0
Keeps old new = (place : ℕ) → is_decoded old place ≡ true → is_decoded new place ≡ true

-- the column of this name is decoded, if there is one
abbrev pub IsReadyColumn : Schema → List (Option ColumnValues) → ColumnName → Type 0
IsReadyColumn schema columns c = (place : ℕ) → (table_scope schema).place_of c ≡ Some place → is_decoded columns place ≡ true

-- so is that of an operand
abbrev pub IsReady : Schema → List (Option ColumnValues) → Operand → Type 0
IsReady schema columns (operand.Column c) = IsReadyColumn schema columns c
IsReady schema columns (operand.Literal l) = Unit {0}
