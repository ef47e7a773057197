-- What the names of columns mean in a query and in a change, by the schemas of the tables that are named.
use Rattle.std.specs.Prelude.{ℕ, ◌+◌, Bool, true, List, [], ◌∷◌, ◌++◌, length, map, if◌then◌else◌, Option, Some, None}
use Rattle.std.specs.List.{flat_map, zip}
use Rattle.std.specs.Str.{bytes_eq}
use Rattle.tt_value.specs.declared.value.Schema.{Schema}
use Rattle.tt_value.specs.declared.name.Name.{Name}
use Rattle.tt_value.specs.declared.name.ColumnName.{ColumnName}
use Rattle.tt_value.specs.declared.name.TableName.{TableName}
use Rattle.tt_value.specs.trees.Scope.{Scope, column_place}
use Rattle.tt_sql.specs.declared.query.Query.{Query}
use Rattle.tt_sql.specs.declared.query.Join.{Join}

-- a table that is named, and its schema
abbrev pub Ref : Type 0
Ref = TableName × Schema

-- a name in front of a column's name has to be the table's own name
abbrev pub names_table : Option Name → TableName → Bool
names_table None table = true
names_table (Some front) table = bytes_eq front.text table.name.text

abbrev pub place_after : ℕ → Option ℕ → List ℕ
place_after before None = []
place_after before (Some place) = (before + place) ∷ []

-- the places that a column's name may mean in rows of these tables, joined end to end, behind so many columns
abbrev pub places_among : ℕ → List Ref → ColumnName → List ℕ
places_among before [] c = []
places_among before (ref ∷ refs) c =
    (if names_table c.table ref.0 then place_after before (column_place ref.1 c.name.text) else [])
    ++ places_among (before + length ref.1.columns) refs c

-- a name that may mean two columns means none
abbrev pub only_place : List ℕ → Option ℕ
only_place (place ∷ []) = Some place
only_place _ = None

abbrev pub scope_of : List Ref → Scope
scope_of refs = record {
  columns = flat_map (λ ref. ref.1.columns) refs;
  place_of = λ c. only_place (places_among 0 refs c);
}

-- the tables of a query, in order
abbrev pub query_tables : Query → List TableName
query_tables query = query.first.table ∷ map (λ (join : Join). join.source.table) query.joins

-- the schemas are those of the query's tables, in order
abbrev pub query_scope : List Schema → Query → Scope
query_scope schemas query = scope_of (zip (query_tables query) schemas)

-- a change sees the columns of its table
abbrev pub target_scope : TableName → Schema → Scope
target_scope table schema = scope_of ((table, schema) ∷ [])
