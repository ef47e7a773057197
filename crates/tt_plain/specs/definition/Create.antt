-- CREATE TABLE: a new table with the next number and a version without rows.
use Rattle.std.specs.Prelude.{Bool, List, None, Option, Some, [], false, if◌then◌else◌, length, map, not, option_to_list, ℕ, ◌++◌, ◌+◌, ◌∷◌}
use Rattle.tt_value.specs.declared.name.Name.{Name}
use Rattle.tt_value.specs.declared.name.Number.{Number}
use Rattle.tt_value.specs.declared.name.TableName.{TableName}
use Rattle.tt_value.specs.declared.value.Column.{Column}
use Rattle.tt_value.specs.declared.value.Schema.{Schema}
use Rattle.tt_value.specs.trees.Scope.{column_place}
use Rattle.tt_retain.specs.Retention.{first_retention}
use Rattle.tt_sql.specs.declared.table.ColumnDefinition.{ColumnDefinition}
use Rattle.tt_sql.specs.declared.table.CreatedTable.{CreatedTable}
use Rattle.tt_sql.specs.meaning.Changes.{replaces}
use Rattle.tt_plain.specs.declared.store.Plain.{Plain}
use Rattle.tt_plain.specs.declared.store.PlainTable.{PlainTable}
use Rattle.tt_plain.specs.asked.Asked.{Asked, table_asked}
use Rattle.tt_plain.specs.effect.Effect.{Dropped, Made, TableChange}
use Rattle.tt_plain.specs.refusal.RetentionRange.{is_transient}
use Rattle.tt_plain.specs.tally.Changes.{MakesTable, TallyChange}

-- what a definition changes
abbrev pub DefinitionChanges : Type 0
DefinitionChanges = List TableChange × List TallyChange

abbrev pub column_made : ColumnDefinition → Column
column_made column = record { name = column.name.text; kind = column.kind; nullable = not column.not_null }

abbrev pub schema_made : List ColumnDefinition → Schema
schema_made columns = record { columns = map column_made columns }

-- a day, where no retention is written
abbrev pub days_given : Option Number → ℕ
days_given None = 1
days_given (Some days) = days.value

-- the place of the clustering key
abbrev pub key_given : Schema → Option Name → Option ℕ
key_given schema None = None
key_given schema (Some name) = column_place schema name.text

abbrev pub next_number : Plain → ℕ
next_number store = length store.tables + 1

abbrev pub table_created : Asked → CreatedTable → PlainTable
table_created asked c =
    record {
      number = next_number asked.store;
      name = c.table.name.text;
      transient = is_transient c.kind;
      schema = schema_made c.columns;
      key = key_given (schema_made c.columns) c.options.cluster_by;
      suspended = false;
      group = next_number asked.store;
      made = asked.moment;
      dropped = None;
      regimes = first_retention asked.moment (days_given c.options.retention) (is_transient c.kind);
      versions = record { begun = asked.moment; rows = [] } ∷ [];
    }

-- with OR REPLACE a live table of the name is dropped in the same event
abbrev pub replaced : Asked → Bool → TableName → List TableChange
replaced asked replaces name =
    if replaces then map (λ (table : PlainTable). Dropped table.number asked.moment) (option_to_list (table_asked asked name)) else []

unfoldable pub create_changes : Asked → CreatedTable → DefinitionChanges
create_changes asked c = (replaced asked c.replaces c.table ++ Made (table_created asked c) ∷ [], MakesTable asked.moment [] ∷ [])
