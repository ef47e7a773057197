-- What a change may be given, and what it does with kinds.
use Rattle.std.specs.Prelude.{◌≡◌, ⊤, List, length, Option, Some}
use Rattle.std.specs.List.{All, AllZip}
use Rattle.tt_value.specs.declared.value.Value.{Value}
use Rattle.tt_value.specs.declared.value.Column.{Column}
use Rattle.tt_value.specs.declared.value.Schema.{Schema}
use Rattle.tt_value.specs.declared.value.Row.{Row}
use Rattle.tt_value.specs.declared.name.Name.{Name}
use Rattle.tt_value.specs.declared.name.TableName.{TableName}
use Rattle.tt_value.specs.trees.Expressions.{value_of}
use Rattle.tt_sql.specs.declared.change.Dml.{Dml}
use Rattle.tt_sql.specs.declared.change.Dml.TheVariants as dml
use Rattle.tt_sql.specs.declared.change.InsertSource.{InsertSource}
use Rattle.tt_sql.specs.declared.change.InsertSource.TheVariants as source
use Rattle.tt_sql.specs.declared.change.Set.{Set}
use Rattle.tt_sql.specs.meaning.Scopes.{query_scope, target_scope}
use Rattle.tt_sql.specs.meaning.Changes.{Staged, Records, BadRecord, NullInRecord, for_column, in_order}
use Rattle.tt_plain.specs.Columns.{column_named}
use Rattle.tt_plain.specs.WrongCounts.{width}
use Rattle.tt_plain.specs.StrictMeaning.{strict_beside, strict_value_of}
use Rattle.tt_plain.specs.ValueKinds.{IsOf, HasKinds, column_kinds, IsRowOf}

abbrev pub SourceHasKinds : List Schema → List Row → InsertSource → Type 0
SourceHasKinds sources read (source.Values tuples) = ⊤
SourceHasKinds sources read (source.Query q) = All (HasKinds (column_kinds (query_scope sources q).columns)) read

-- the rows that an INSERT's query reads
abbrev pub ReadHasKinds : List Schema → List Row → Dml → Type 0
ReadHasKinds sources read (dml.Insert i) = SourceHasKinds sources read i.source
ReadHasKinds sources read (dml.Update u) = ⊤
ReadHasKinds sources read (dml.Delete d) = ⊤
ReadHasKinds sources read (dml.Copy c) = ⊤

-- the records of a staged file
abbrev pub StagedAreRows : Schema → Staged → Type 0
StagedAreRows schema (Records rows) = All (IsRowOf schema) rows
StagedAreRows schema (BadRecord number column) = ⊤
StagedAreRows schema (NullInRecord column) = ⊤

-- A column takes a value as it is, or reads a text as a date that it is; what it stores is of its kind.
pub record IsReadBy (column : Column) (v : Value) : Type 0 where
  pub read : strict_beside (Some column.kind) v ≡ Some (for_column column v)
  pub of_kind : IsOf (Some column.kind) (for_column column v)

-- The values of a row that is put into a table: as many as columns are given, and each column reads its own.
pub record AreReadBy (schema : Schema) (names : Option (List Name)) (values : List Value) : Type 0 where
  pub count : length values ≡ width schema names
  pub read : AllZip IsReadBy schema.columns (in_order schema names values)

-- A SET on a row meets no case that kinds exclude, and its column reads the new value.
pub record SetKeepsToKinds (table : TableName) (schema : Schema) (row : Row) (s : Set) : Type 0 where
  pub value : strict_value_of (target_scope table schema) row s.value ≡ Some (value_of (target_scope table schema) row s.value)
  pub column : Column
  pub named : column_named schema s.column ≡ Some column
  pub read : (v : Value) → value_of (target_scope table schema) row s.value ≡ Some v → IsReadBy column v
