-- CREATE TABLE CLONE: a new table with the rows and the parts that its source has now or had at the point.
use Rattle.std.specs.Prelude.{List, None, Option, Some, [], true, ◌++◌, ◌∷◌}
use Rattle.tt_value.specs.declared.value.Row.{Row}
use Rattle.tt_retain.specs.Retention.{clone_days, first_retention}
use Rattle.tt_sql.specs.declared.table.ClonedTable.{ClonedTable}
use Rattle.tt_plain.specs.declared.store.PlainTable.{PlainTable}
use Rattle.tt_plain.specs.Answers.{◌>>=◌}
use Rattle.tt_plain.specs.asked.Asked.{Asked, table_asked}
use Rattle.tt_plain.specs.definition.Create.{DefinitionChanges, next_number, replaced}
use Rattle.tt_plain.specs.effect.Effect.{Made}
use Rattle.tt_plain.specs.opening.Seen.{rows_seen}
use Rattle.tt_plain.specs.refusal.RetentionRange.{is_transient}
use Rattle.tt_plain.specs.tally.Changes.{MakesTable}
use Rattle.tt_plain.specs.tally.Layouts.{source_parts}

-- the schema, the key and the retention are the source's; a transient clone keeps its past for at most a day; it begins suspended
abbrev pub table_cloned : Asked → ClonedTable → PlainTable → List Row → PlainTable
table_cloned asked c from_table rows =
    record {
      number = next_number asked.store;
      name = c.table.name.text;
      transient = is_transient c.kind;
      schema = from_table.schema;
      key = from_table.key;
      suspended = true;
      group = from_table.group;
      made = asked.moment;
      dropped = None;
      regimes = first_retention asked.moment (clone_days from_table.regimes (is_transient c.kind)) (is_transient c.kind);
      versions = record { begun = asked.moment; rows = rows } ∷ [];
    }

-- The source may be the table that is replaced.
unfoldable pub clone_changes : Asked → ClonedTable → Option DefinitionChanges
clone_changes asked c = do
  from_table ← table_asked asked c.source.table
  seen ← rows_seen asked c.source
  parts ← source_parts asked c.source
  Some (replaced asked c.replaces c.table ++ Made (table_cloned asked c from_table seen.1) ∷ [], MakesTable asked.moment parts.1 ∷ [])
