-- The values of a column that are there, and the values of the items of a query.
use Rattle.std.specs.Prelude.{◌≡◌, ℕ, List, [], ◌∷◌, map, if◌then◌else◌, Option, Some, None, option_and_then, slice_get}
use Rattle.std.specs.Option.{option_map}
use Rattle.tt_value.specs.declared.value.Value.{Value}
use Rattle.tt_value.specs.declared.value.Value.TheVariants.{Null}
use Rattle.tt_value.specs.declared.value.Row.{Row}
use Rattle.tt_value.specs.trees.Scope.{Scope}
use Rattle.tt_sql.specs.declared.query.Item.{Item}
use Rattle.tt_sql.specs.declared.query.Query.{Query}
use Rattle.tt_sql.specs.declared.query.Selection.{Selection}
use Rattle.tt_sql.specs.meaning.Queries.{item_value, all_some, has_aggregate, selected, selected_rows, grouped, group_key}
use Rattle.tt_agg.specs.declared.error.AggregateError.{AggregateError}
use Rattle.tt_agg.specs.declared.error.AggregateError.TheVariants.{OutOfRange}

abbrev pub unless_null : Option Value → Option Value
unless_null None = None
unless_null (Some Null) = None
unless_null (Some v) = Some v

-- a row's value at a place, if it is not NULL
abbrev pub present_at : Option ℕ → Row → Option Value
present_at place row = unless_null (option_and_then (λ i. slice_get row.values i) place)

abbrev pub item_values : Scope → List Row → List Item → Option (List Value)
item_values scope rows items = all_some (map (item_value scope rows) items)

-- the row of the answer that a row gives by itself
abbrev pub single_row : Scope → Selection → Row → Option Row
single_row scope selection row = selected scope selection (row ∷ [])

-- the one row of the answer that all rows together give
abbrev pub whole_row : Scope → Selection → List Row → Option (List Row)
whole_row scope selection rows = option_map (λ row. row ∷ []) (selected scope selection rows)

-- the rows of the answer without GROUP BY
unfoldable pub ungrouped_rows : Scope → Selection → List Row → Option (List Row)
ungrouped_rows scope selection rows = if has_aggregate selection then whole_row scope selection rows else all_some (map (single_row scope selection) rows)

-- the rows of the answer that the groups of GROUP BY give
unfoldable pub grouped_rows : Scope → Query → List Row → Option (List Row)
grouped_rows scope query rows = all_some (map (selected scope query.selection) (grouped (group_key scope query.group) rows))

-- an answer that a query is out of range comes only where it is
abbrev pub IsOutOfRange : Option (List Row) → AggregateError → Type 0
IsOutOfRange rows error = error ≡ OutOfRange → rows ≡ None

-- the query selects its rows as they are
abbrev pub IsWhole : Query → Type 0
IsWhole query = (scope : Scope) (rows : List Row) → selected_rows scope query rows ≡ Some rows
