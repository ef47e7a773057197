-- NullInNotNull: a written NULL for a column that takes none, or such a column left out.
use Rattle.std.specs.Prelude.{ℕ, Bool, false, ◌&&◌, not, if◌then◌else◌, List, [], ◌∷◌, ◌++◌, Option, Some, None}
use Rattle.std.specs.List.{list_any}
use Rattle.tt_value.specs.trees.Predicates.{is_null}
use Rattle.tt_value.specs.declared.value.Column.{Column}
use Rattle.tt_value.specs.declared.value.Schema.{Schema}
use Rattle.tt_value.specs.declared.name.Name.{Name}
use Rattle.tt_value.specs.declared.name.Literal.{Literal}
use Rattle.tt_sql.specs.declared.query.Selection.{Selection}
use Rattle.tt_sql.specs.declared.query.Selection.TheVariants as selection
use Rattle.tt_sql.specs.declared.query.Item.{Item}
use Rattle.tt_sql.specs.declared.query.Item.TheVariants as item
use Rattle.tt_sql.specs.declared.change.Dml.{Dml}
use Rattle.tt_sql.specs.declared.change.Dml.TheVariants as dml
use Rattle.tt_sql.specs.declared.change.Insert.{Insert}
use Rattle.tt_sql.specs.declared.change.InsertSource.{InsertSource}
use Rattle.tt_sql.specs.declared.change.InsertSource.TheVariants as source
use Rattle.tt_sql.specs.declared.change.Tuple.{Tuple}
use Rattle.tt_sql.specs.declared.change.Set.{Set}
use Rattle.tt_sql.specs.declared.statement.Statement.{Statement}
use Rattle.tt_sql.specs.declared.statement.Statement.TheVariants as statement
use Rattle.tt_plain.specs.Places.{each, each_at, if_there, table_begin}
use Rattle.tt_plain.specs.Columns.{column_named, target_column}
use Rattle.tt_plain.specs.Expressions.{lone_literal}
use Rattle.tt_plain.specs.WrongCounts.{is_name}
use Rattle.tt_plain.specs.Tables.{schema_at}

abbrev pub takes_no_null : Option Column → Bool
takes_no_null None = false
takes_no_null (Some column) = not column.nullable

-- a written NULL, at its own place
abbrev pub null_literal : Option Column → Literal → List ℕ
null_literal column l = if takes_no_null column && is_null l.value then l.place ∷ [] else []

-- `(NULL)` and `NULL + 1` are no written NULL
abbrev pub null_item : Option Column → Item → List ℕ
null_item column (item.Expr e) = if_there (null_literal column) (lone_literal e)
null_item column _ = []

abbrev pub null_value : Schema → Option (List Name) → ℕ → Literal → List ℕ
null_value schema names k l = null_literal (target_column schema names k) l

abbrev pub nulls_in_tuple : Schema → Option (List Name) → Tuple → List ℕ
nulls_in_tuple schema names t = each_at (null_value schema names) 0 t.values

abbrev pub null_in_item : Schema → Option (List Name) → ℕ → Item → List ℕ
null_in_item schema names k i = null_item (target_column schema names k) i

abbrev pub nulls_in_selection : Schema → Option (List Name) → Selection → List ℕ
nulls_in_selection schema names (selection.All place) = []
nulls_in_selection schema names (selection.Listed items) = each_at (null_in_item schema names) 0 items

abbrev pub nulls_in_source : Schema → Option (List Name) → InsertSource → List ℕ
nulls_in_source schema names (source.Values tuples) = each (nulls_in_tuple schema names) tuples
nulls_in_source schema names (source.Query q) = nulls_in_selection schema names q.selection

-- a column that takes no NULL and is not in the list
abbrev pub is_left_out : List Name → Column → Bool
is_left_out names column = not column.nullable && not (list_any (is_name column.name) names)

-- at the place of the table
abbrev pub left_out : Schema → ℕ → List Name → List ℕ
left_out schema place names = if list_any (is_left_out names) schema.columns then place ∷ [] else []

abbrev pub nulls_in_insert : Schema → Insert → List ℕ
nulls_in_insert schema i = if_there (left_out schema (table_begin i.table)) i.columns ++ nulls_in_source schema i.columns i.source

abbrev pub null_set : Schema → Set → List ℕ
null_set schema s = if_there (null_literal (column_named schema s.column)) (lone_literal s.value)

abbrev pub nulls_in_dml : List Schema → Dml → List ℕ
nulls_in_dml schemas (dml.Insert i) = nulls_in_insert (schema_at schemas 0) i
nulls_in_dml schemas (dml.Update u) = each (null_set (schema_at schemas 0)) u.sets
nulls_in_dml schemas (dml.Delete d) = []
nulls_in_dml schemas (dml.Copy c) = []

-- the places of all written NULLs, and of a table's name, where a column takes no NULL
abbrev pub nulls_in_not_null : List Schema → Statement → List ℕ
nulls_in_not_null schemas (statement.Dml d) = nulls_in_dml schemas d
nulls_in_not_null schemas _ = []
