-- Rows of values of given kinds, one for each column, and the same table column by column.
use Rattle.std.specs.Prelude.{ℕ, ◌≤◌, List, [], ◌∷◌, length, map, slice_get}
use Rattle.std.specs.Int.{w64}
use Rattle.std.specs.Int.RustNames.{FitsSigned}
use Rattle.std.specs.List.{range_with_len, zip, AllByRecursion}
use Rattle.tt_value.specs.declared.value.Kind.{Kind}
use Rattle.tt_value.specs.declared.value.Kind.TheVariants as kinds
use Rattle.tt_value.specs.declared.value.Value.{Value}
use Rattle.tt_value.specs.declared.value.Value.TheVariants.{Null, Int, Date, Text}
use Rattle.tt_value.specs.declared.value.Row.{Row}
use Rattle.tt_value.specs.trees.Scope.{value_or_null}
use Rattle.tt_zone.specs.declared.zone.Zone.{Zone}
use Rattle.tt_zone.specs.Zones.{zone_of, column_at}
use Rattle.tt_intcol.specs.IntBody.{IsDay}
use Rattle.tt_textcol.specs.TextBody.{IsValue}

-- what a partition holds: the kinds of its columns, and its rows in order
pub record Table : Type 0 where
  pub kinds : List Kind
  pub rows : List Row

-- the columns of a table, each with its kind
abbrev pub columns_of : Table → List (Kind × List Value)
columns_of table = zip table.kinds (map (λ k. column_at k table.rows) (range_with_len 0 (length table.kinds)))

-- the true zones of rows, one for each of so many columns
abbrev pub zones_by : ℕ → List Row → List Zone
zones_by columns rows = map (λ k. zone_of (column_at k rows)) (range_with_len 0 columns)

abbrev pub zones_of : Table → List Zone
zones_of table = zones_by (length table.kinds) table.rows

-- the row at a place of columns
abbrev pub row_of : List (List Value) → ℕ → Row
row_of columns k = record { values = map (λ (column : List Value). value_or_null (slice_get column k)) columns }

abbrev pub rows_by : ℕ → List (List Value) → List Row
rows_by rows columns = map (row_of columns) (range_with_len 0 rows)

-- the table of columns of so many values
abbrev pub table_of : ℕ → List (Kind × List Value) → Table
table_of rows columns = record { kinds = map (λ c. c.0) columns; rows = rows_by rows (map (λ c. c.1) columns) }

-- NULL, or a value of the kind; a date is a day of the years 1 to 9999
abbrev pub IsOf : Kind → Value → Type 0
IsOf kind Null = Unit {0}
IsOf kinds.Int (Int n) = FitsSigned w64 n
IsOf kinds.Date (Date day) = IsDay day
IsOf kinds.Varchar (Text text) = IsValue text
IsOf _ _ = ⊥

-- one value for each kind, in order
abbrev pub HasKinds : List Kind → List Value → Type 0
HasKinds [] [] = Unit {0}
HasKinds (kind ∷ kinds) (v ∷ vs) = IsOf kind v × HasKinds kinds vs
HasKinds _ _ = ⊥

-- a table that a partition may hold: 1 to 32 columns, and 1 to 65,536 rows of their kinds
pub record IsPart (table : Table) : Type 0 where
  pub some_columns : 1 ≤ length table.kinds
  pub few_columns : length table.kinds ≤ 32
  pub some_rows : 1 ≤ length table.rows
  pub few_rows : length table.rows ≤ 65536
  pub of_kinds : AllByRecursion (λ (row : Row). HasKinds table.kinds row.values) table.rows
