-- What a column of values is, as its kind and its values.
use Rattle.std.specs.Prelude.{◌≡◌, ℕ, List, map, slice_get, Option, Some, None}
use Rattle.tt_value.specs.declared.value.Kind.{Kind}
use Rattle.tt_value.specs.declared.value.Kind.TheVariants as kinds
use Rattle.tt_value.specs.declared.value.Value.{Value}
use Rattle.tt_partition.specs.declared.column.ColumnValues.{ColumnValues}
use Rattle.tt_partition.specs.declared.column.ColumnValues.TheVariants.{Ints, Dates, Texts}
use Rattle.std.specs.List.{AllByRecursion}
use Rattle.tt_zone.specs.Zones.{column_at}
use Rattle.tt_partition.specs.Table.{Table, IsOf}
use Rattle.tt_partition.specs.ImageReading.{number_value, text_value}

abbrev pub column_kind : ColumnValues → Kind
column_kind (Ints numbers) = kinds.Int
column_kind (Dates days) = kinds.Date
column_kind (Texts texts) = kinds.Varchar

abbrev pub column_values : ColumnValues → List Value
column_values (Ints numbers) = map (number_value kinds.Int) numbers
column_values (Dates days) = map (number_value kinds.Date) days
column_values (Texts texts) = map text_value texts

abbrev pub column_view : ColumnValues → Kind × List Value
column_view column = (column_kind column, column_values column)

-- each value is one of the kind
abbrev pub IsValues : ColumnValues → Type 0
IsValues column = AllByRecursion (IsOf (column_kind column)) (column_values column)

-- the value at a place; none past the end
abbrev pub joined : {A : Type 0} → Option (Option A) → Option A
joined None = None
joined (Some o) = o

-- the column at a place of a table: of its kind there, with the values of its rows
pub record IsColumnAt (table : Table) (place : ℕ) (column : ColumnValues) : Type 0 where
  pub kind : slice_get table.kinds place ≡ Some (column_kind column)
  pub values : column_values column ≡ column_at place table.rows
