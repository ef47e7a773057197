-- What a statement does to the rows of a table: the rows that it takes away, those that it adds, and its count; or why it is refused.
use Rattle.std.specs.Prelude.{ℕ, ◌+◌, ◌&&◌, Bool, false, not, if◌then◌else◌, List, [], ◌∷◌, length, map, Option, Some, None, slice_get, option_and_then}
use Rattle.std.specs.Option.{option_map}
use Rattle.std.specs.List.{filter, list_any, position, zip, range_with_len}
use Rattle.std.specs.Str.{bytes_eq}
use Rattle.tt_value.specs.declared.value.Value.{Value}
use Rattle.tt_value.specs.declared.value.Column.{Column}
use Rattle.tt_value.specs.declared.value.Schema.{Schema}
use Rattle.tt_value.specs.declared.value.Row.{Row}
use Rattle.tt_value.specs.declared.name.Name.{Name}
use Rattle.tt_value.specs.trees.Scope.{Scope, beside, value_or_null}
use Rattle.tt_sql.specs.meaning.Scopes.{query_scope, target_scope}
use Rattle.tt_value.specs.trees.Expressions.{value_of}
use Rattle.tt_value.specs.trees.Predicates.{takes, is_null}
use Rattle.tt_sql.specs.declared.change.Dml.{Dml}
use Rattle.tt_sql.specs.declared.change.Dml.TheVariants as dml
use Rattle.tt_sql.specs.declared.change.Insert.{Insert}
use Rattle.tt_sql.specs.declared.change.InsertSource.{InsertSource}
use Rattle.tt_sql.specs.declared.change.InsertSource.TheVariants as source
use Rattle.tt_sql.specs.declared.change.Tuple.{Tuple}
use Rattle.tt_sql.specs.declared.change.Update.{Update}
use Rattle.tt_sql.specs.declared.change.Delete.{Delete}
use Rattle.tt_sql.specs.declared.change.Set.{Set}
use Rattle.tt_sql.specs.meaning.Queries.{all_some, answer_of}

-- Rows come in the order of the tuples, of the answer, of the records, or of the rows that are changed. Columns and records count from 1.
pub data Changed : Type 0 where
  Changes : (removed added : List Row) (count : ℕ) → Changed
  BadData : (number column : ℕ) → Changed
  OutOfRange : Changed
  NullInRow : (column : ℕ) → Changed

-- what the records of a staged file are
pub data Staged : Type 0 where
  Records : List Row → Staged
  BadRecord : (number column : ℕ) → Staged
  NullInRecord : (column : ℕ) → Staged

-- ---- rows to be stored

-- a NULL in a column that is NOT NULL
abbrev pub is_missing : Option (Column × Value) → Bool
is_missing None = false
is_missing (Some cell) = not cell.0.nullable && is_null cell.1

abbrev pub is_missing_at : Schema → ℕ → Row → Bool
is_missing_at schema place row = is_missing (slice_get (zip schema.columns row.values) place)

-- the least column, from 0, in which one of the rows has a NULL that may not be there
abbrev pub first_missing : Schema → List Row → Option ℕ
first_missing schema rows = position (λ place. list_any (is_missing_at schema place) rows) (range_with_len 0 (length schema.columns))

-- these rows in place of those, unless a NULL stands where none may
abbrev pub stores : List Row → List Row → ℕ → Option ℕ → Changed
stores removed added count None = Changes removed added count
stores removed added count (Some place) = NullInRow (place + 1)

-- A value for a column: a text in quotes is read as a date where the column is a DATE.
abbrev pub for_column : Column → Value → Value
for_column column v = beside (Some column.kind) v

-- ---- INSERT

-- the value that is given for a column of this name, of the values for the listed columns
abbrev pub given_value : List Name → List Value → Column → Value
given_value names values column = value_or_null (option_and_then (slice_get values) (position (λ (name : Name). bytes_eq name.text column.name) names))

-- the values in the order of the columns; NULL where a column is left out
abbrev pub in_order : Schema → Option (List Name) → List Value → List Value
in_order schema None values = values
in_order schema (Some names) values = map (given_value names values) schema.columns

-- the row that is stored for the values of a tuple or of a row of the answer
abbrev pub stored_row : Schema → Option (List Name) → List Value → Row
stored_row schema names values = record { values = map (λ cell. for_column cell.0 cell.1) (zip schema.columns (in_order schema names values)) }

abbrev pub tuple_values : Tuple → List Value
tuple_values tuple = map (λ l. l.value) tuple.values

-- the rows that an INSERT brings, before they are fitted to the table; none where its query is out of range
abbrev pub inserted_values : List Schema → List Row → InsertSource → Option (List (List Value))
inserted_values sources rows (source.Values tuples) = Some (map tuple_values tuples)
inserted_values sources rows (source.Query q) = option_map (map (λ (row : Row). row.values)) (answer_of (query_scope sources q) q rows)

abbrev pub adds : Schema → Option (List Row) → Changed
adds schema None = OutOfRange
adds schema (Some rows) = stores [] rows (length rows) (first_missing schema rows)

-- the query, if there is one, reads these rows of tables with these schemas
abbrev pub insert_change : Schema → List Schema → List Row → Insert → Changed
insert_change schema sources rows insert = adds schema (option_map (map (stored_row schema insert.columns)) (inserted_values sources rows insert.source))

-- ---- UPDATE and DELETE

-- the new value for a column, if one of the SETs names it; each is read on the old row
abbrev pub set_value : Scope → List Set → Row → Column × Value → Option Value
set_value scope [] row cell = Some cell.1
set_value scope (set ∷ sets) row cell = if bytes_eq set.column.text cell.0.name then option_map (for_column cell.0) (value_of scope row set.value) else set_value scope sets row cell

-- the row after an update; none where a value is out of range
abbrev pub updated_row : Scope → List Set → Row → Option Row
updated_row scope sets row = option_map (λ vs. record { values = vs }) (all_some (map (set_value scope sets row) (zip scope.columns row.values)))

abbrev pub replaces : Schema → List Row → Option (List Row) → Changed
replaces schema removed None = OutOfRange
replaces schema removed (Some added) = stores removed added (length removed) (first_missing schema added)

abbrev pub update_change : Schema → List Row → Update → Changed
update_change schema rows update =
    let scope = target_scope update.table schema in
    let removed = filter (takes scope update.filter) rows in
    replaces schema removed (all_some (map (updated_row scope update.sets) removed))

abbrev pub delete_change : Schema → List Row → Delete → Changed
delete_change schema rows delete =
    let removed = filter (takes (target_scope delete.table schema) delete.filter) rows in
    Changes removed [] (length removed)

-- ---- COPY

abbrev pub copy_change : Staged → Changed
copy_change (Records rows) = Changes [] rows (length rows)
copy_change (BadRecord number column) = BadData number column
copy_change (NullInRecord column) = NullInRow column

-- What a statement does to the rows of its table. An INSERT's query reads rows of tables with the further schemas, and a COPY the records of its file.
unfoldable pub change_of : Schema → List Row → List Schema → List Row → Staged → Dml → Changed
change_of schema rows sources read staged (dml.Insert insert) = insert_change schema sources read insert
change_of schema rows sources read staged (dml.Update update) = update_change schema rows update
change_of schema rows sources read staged (dml.Delete delete) = delete_change schema rows delete
change_of schema rows sources read staged (dml.Copy copy) = copy_change staged
