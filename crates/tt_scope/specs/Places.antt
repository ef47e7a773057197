-- Where the columns of a query's tables stand in the rows that it reads.
use Rattle.std.specs.Prelude.{ℕ, ◌^◌, ◌<◌, List, ◌∷◌, length, map, if◌then◌else◌, Option, None}
use Rattle.std.specs.List.{zip, flat_map}
use Rattle.tt_value.specs.declared.value.Column.{Column}
use Rattle.tt_value.specs.declared.value.Schema.{Schema}
use Rattle.tt_value.specs.declared.name.ColumnName.{ColumnName}
use Rattle.tt_value.specs.declared.name.TableName.{TableName}
use Rattle.tt_value.specs.trees.Scope.{Scope, column_place}
use Rattle.tt_sql.specs.declared.query.Query.{Query}
use Rattle.tt_sql.specs.declared.query.Join.{Join}
use Rattle.tt_sql.specs.meaning.Scopes.{Ref, names_table, scope_of, query_scope}
use Rattle.tt_scope.specs.declared.place.Tables.{Tables}

-- what names mean among tables and their schemas, in order
abbrev pub scope_in : Tables → Scope
scope_in tables = scope_of (zip (tables.first.now ∷ map (λ (join : Join). join.source.table) tables.joins.now) tables.schemas.now)

-- the columns can be counted
abbrev pub IsCounted : Scope → Type 0
IsCounted scope = length scope.columns < 2 ^ 64

-- the columns of the tables that the query reads can be counted
abbrev pub HasPlaces : List Schema → Query → Type 0
HasPlaces schemas query = IsCounted (query_scope schemas query)

-- the place among a table's columns of the column that a name means there
abbrev pub place_in_table : TableName → Schema → ColumnName → Option ℕ
place_in_table table schema c = if names_table c.table table then column_place schema c.name.text else None

-- the further tables of a query
abbrev pub joined_tables : List Join → List Schema → List Ref
joined_tables joins schemas = zip (map (λ (join : Join). join.source.table) joins) schemas

-- their columns, joined end to end
abbrev pub columns_of : List Ref → List Column
columns_of refs = flat_map (λ ref. ref.1.columns) refs
