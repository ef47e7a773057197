-- The start of a query or a change: what it sees, and the session as it is then.
use Rattle.std.specs.Prelude.{List, None, Option, Some, [], map, ℕ}
use Rattle.tt_value.specs.declared.name.TableName.{TableName}
use Rattle.tt_value.specs.declared.value.Row.{Row}
use Rattle.tt_sql.specs.declared.change.Dml.{Dml}
use Rattle.tt_sql.specs.declared.query.Query.{Query}
use Rattle.tt_sql.specs.declared.query.Source.{Source}
use Rattle.tt_sql.specs.meaning.Queries.{all_some}
use Rattle.tt_plain.specs.declared.store.PlainOpen.{PlainOpen}
use Rattle.tt_plain.specs.declared.store.PlainSession.{PlainSession}
use Rattle.tt_plain.specs.declared.store.PlainTable.{PlainTable}
use Rattle.tt_plain.specs.Answers.{◌>>=◌}
use Rattle.tt_plain.specs.asked.Asked.{Asked, state_asked, table_asked}
use Rattle.tt_plain.specs.opening.Marks.{marks_exclusively, with_mark}
use Rattle.tt_plain.specs.opening.Point.{change_sources, query_sources}
use Rattle.tt_plain.specs.opening.Seen.{rows_seen, visible_rows}
use Rattle.tt_sql.specs.declared.change.Dml.TheVariants as dml

-- the table that a change changes
abbrev pub target_of : Dml → TableName
target_of (dml.Insert i) = i.table
target_of (dml.Update u) = u.table
target_of (dml.Delete d) = d.table
target_of (dml.Copy c) = c.table

-- Of the target of an INSERT or a COPY no row is seen.
abbrev pub target_rows : PlainSession → PlainTable → Dml → List Row
target_rows state table (dml.Insert i) = []
target_rows state table (dml.Update u) = visible_rows state table
target_rows state table (dml.Delete d) = visible_rows state table
target_rows state table (dml.Copy c) = []

-- what each of the tables is that are read
abbrev pub sources_seen : Asked → List Source → Option (List (ℕ × List Row))
sources_seen asked sources = all_some (map (rows_seen asked) sources)

abbrev pub opened : Asked → List (ℕ × List Row) → Option (ℕ × List Row) → PlainOpen
opened asked sources target =
    record { index = asked.index; sources = sources; target = target; marks_before = (state_asked asked).marks }

-- a query has no mark
unfoldable pub query_opened : Asked → Query → Option PlainSession
query_opened asked q = do
  sources ← sources_seen asked (query_sources q)
  Some (record (state_asked asked) { running = Some (opened asked sources None) })

unfoldable pub change_opened : Asked → Dml → Option PlainSession
change_opened asked d = do
  table ← table_asked asked (target_of d)
  sources ← sources_seen asked (change_sources d)
  Some (record (state_asked asked) {
    running = Some (opened asked sources (Some (table.number, target_rows (state_asked asked) table d)));
    marks = with_mark table.number (marks_exclusively d) (state_asked asked).marks;
  })
