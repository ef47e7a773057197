-- The row that a table stores for a written tuple, value by value.
use Rattle.std.specs.Prelude.{ℕ, slice_get, List, map, Option, Some, None}
use Rattle.std.specs.List.{position, zip}
use Rattle.std.specs.Str.{bytes_eq}
use Rattle.tt_value.specs.declared.value.Value.{Value}
use Rattle.tt_value.specs.declared.value.Column.{Column}
use Rattle.tt_value.specs.declared.value.Schema.{Schema}
use Rattle.tt_value.specs.declared.value.Row.{Row}
use Rattle.tt_value.specs.declared.name.Name.{Name}
use Rattle.tt_value.specs.declared.name.Literal.{Literal}
use Rattle.tt_value.specs.trees.Scope.{value_or_null}
use Rattle.tt_sql.specs.declared.change.Tuple.{Tuple}
use Rattle.tt_sql.specs.meaning.Changes.{for_column, given_value, stored_row, tuple_values}

-- what is written, as values
abbrev pub written : List Literal → List Value
written literals = map (λ (l : Literal). l.value) literals

-- each column holds what is written at its place
abbrev pub stored_cells : List Column → List Literal → List Value
stored_cells columns literals = map (λ cell. for_column cell.0 cell.1) (zip columns (written literals))

-- a column holds what is written for its name
abbrev pub stored_by_name : List Name → List Literal → Column → Value
stored_by_name names literals column = for_column column (given_value names (written literals) column)

abbrev pub named_cells : List Column → List Name → List Literal → List Value
named_cells columns names literals = map (stored_by_name names literals) columns

-- a column holds what is written at a place, and NULL where nothing is
abbrev pub stored_at : Column → List Literal → ℕ → Value
stored_at column literals place = for_column column (value_or_null (slice_get (written literals) place))

-- where a list names a column
abbrev pub listed_at : List Name → Column → Option ℕ
listed_at names column = position (λ (name : Name). bytes_eq name.text column.name) names

abbrev pub tuple_cells : List Column → Option (List Name) → List Literal → List Value
tuple_cells columns None literals = stored_cells columns literals
tuple_cells columns (Some names) literals = named_cells columns names literals

abbrev pub stored_tuple : Schema → Option (List Name) → Tuple → Row
stored_tuple schema names tuple = stored_row schema names (tuple_values tuple)

abbrev pub stored_tuples : Schema → Option (List Name) → List Tuple → List Row
stored_tuples schema names tuples = map (stored_tuple schema names) tuples
