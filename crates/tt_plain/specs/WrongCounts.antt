-- WrongCount: another number of values than of columns, a name that stands twice, or more than 32 columns.
use Rattle.std.specs.Prelude.{ℕ, Bool, ◌==◌, if◌then◌else◌, List, [], ◌∷◌, ◌++◌, length, map, take, drop, Option, Some, None}
use Rattle.std.specs.Str.{bytes_eq}
use Rattle.tt_value.specs.declared.value.Column.{Column}
use Rattle.tt_value.specs.declared.value.Schema.{Schema}
use Rattle.tt_value.specs.declared.name.Name.{Name}
use Rattle.tt_sql.specs.meaning.Scopes.{query_scope}
use Rattle.tt_sql.specs.declared.change.Dml.{Dml}
use Rattle.tt_sql.specs.declared.change.Dml.TheVariants as dml
use Rattle.tt_sql.specs.declared.change.Insert.{Insert}
use Rattle.tt_sql.specs.declared.change.InsertSource.{InsertSource}
use Rattle.tt_sql.specs.declared.change.InsertSource.TheVariants as source
use Rattle.tt_sql.specs.declared.change.Set.{Set}
use Rattle.tt_sql.specs.declared.change.Tuple.{Tuple}
use Rattle.tt_sql.specs.declared.table.ColumnDefinition.{ColumnDefinition}
use Rattle.tt_sql.specs.declared.statement.Statement.{Statement}
use Rattle.tt_sql.specs.declared.statement.Statement.TheVariants as statement
use Rattle.tt_plain.specs.Places.{each, if_there}
use Rattle.tt_plain.specs.Tables.{schema_at}
use Rattle.tt_plain.specs.UnknownColumns.{item_count}

-- ---- names that stand twice

abbrev pub is_name : List ℕ → Name → Bool
is_name text name = bytes_eq text name.text

abbrev pub mention : List ℕ → Name → List ℕ
mention text name = if is_name text name then name.place ∷ [] else []

-- the places of the names in a list that are this text
abbrev pub mentions : List ℕ → List Name → List ℕ
mentions text names = each (mention text) names

abbrev pub later_ones : List ℕ → List ℕ
later_ones [] = []
later_ones (place ∷ places) = places

-- A column that a list names again, for each column of the table.
abbrev pub named_again : Schema → List Name → List ℕ
named_again schema names = each (λ (column : Column). later_ones (mentions column.name names)) schema.columns

-- a name that stood before
abbrev pub defined_again : List Name → List ℕ
defined_again [] = []
defined_again (name ∷ names) = mentions name.text names ++ defined_again names

-- ---- numbers of values and of columns

-- so many columns does an INSERT give values for
abbrev pub width : Schema → Option (List Name) → ℕ
width schema None = length schema.columns
width schema (Some names) = length names

abbrev pub unless_equal : ℕ → ℕ → ℕ → List ℕ
unless_equal place a b = if a == b then [] else place ∷ []

abbrev pub miscounted_tuple : ℕ → Tuple → List ℕ
miscounted_tuple wanted t = unless_equal t.place (length t.values) wanted

abbrev pub miscounted_source : List Schema → ℕ → InsertSource → List ℕ
miscounted_source sources wanted (source.Values tuples) = each (miscounted_tuple wanted) tuples
miscounted_source sources wanted (source.Query q) = unless_equal q.place (item_count (query_scope sources q) q.selection) wanted

-- into a table of the first schema, from tables of the others
abbrev pub miscounted_insert : Schema → List Schema → Insert → List ℕ
miscounted_insert target sources i = if_there (named_again target) i.columns ++ miscounted_source sources (width target i.columns) i.source

abbrev pub set_names : List Set → List Name
set_names sets = map (λ (s : Set). s.column) sets

abbrev pub miscounted_dml : List Schema → Dml → List ℕ
miscounted_dml schemas (dml.Insert i) = miscounted_insert (schema_at schemas 0) (drop 1 schemas) i
miscounted_dml schemas (dml.Update u) = named_again (schema_at schemas 0) (set_names u.sets)
miscounted_dml schemas (dml.Delete d) = []
miscounted_dml schemas (dml.Copy c) = []

abbrev pub defined_names : List ColumnDefinition → List Name
defined_names columns = map (λ (column : ColumnDefinition). column.name) columns

abbrev pub places_of : List Name → List ℕ
places_of names = map (λ (name : Name). name.place) names

-- Each column past the 32nd is one too many; what stands twice before it stands further to the left.
abbrev pub miscounted_columns : List Name → List ℕ
miscounted_columns names = defined_again (take 32 names) ++ places_of (drop 32 names)

-- the places of all values, names and columns that are too many or too few
abbrev pub wrong_counts : List Schema → Statement → List ℕ
wrong_counts schemas (statement.Dml d) = miscounted_dml schemas d
wrong_counts schemas (statement.Create c) = miscounted_columns (defined_names c.columns)
wrong_counts schemas _ = []
