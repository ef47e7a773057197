-- The columns that a statement's names mean.
use Rattle.std.specs.Prelude.{ℕ, List, Option, Some, None, slice_get, option_and_then}
use Rattle.tt_value.specs.declared.value.Column.{Column}
use Rattle.tt_value.specs.declared.value.Schema.{Schema}
use Rattle.tt_value.specs.declared.name.Name.{Name}
use Rattle.tt_value.specs.trees.Scope.{column_place}

-- the column of this name
abbrev pub column_named : Schema → Name → Option Column
column_named schema name = option_and_then (λ k. slice_get schema.columns k) (column_place schema name.text)

-- Where a row's value goes that stands at a place: into the column that the list names there, or, without a list, into the column of that place.
abbrev pub target_column : Schema → Option (List Name) → ℕ → Option Column
target_column schema None k = slice_get schema.columns k
target_column schema (Some names) k = option_and_then (column_named schema) (slice_get names k)
