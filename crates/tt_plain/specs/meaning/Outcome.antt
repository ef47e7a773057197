-- What an open statement means over what it sees: the answer of a query, what a change does to its table, or a refusal.
use Rattle.std.specs.Prelude.{List, None, Option, Some, [], filter_map, option_map, slice_range, ℕ, ◌∷◌}
use Rattle.tt_value.specs.declared.value.Row.{Row}
use Rattle.tt_value.specs.declared.value.Schema.{Schema}
use Rattle.tt_script.specs.declared.script.FileText.{FileText}
use Rattle.tt_script.specs.declared.script.Script.{Script}
use Rattle.tt_sql.specs.declared.change.Dml.{Dml}
use Rattle.tt_sql.specs.declared.query.Query.{Query}
use Rattle.tt_sql.specs.meaning.Changes.{BadData, Changed, Changes, NullInRow, OutOfRange, delete_change, insert_change, update_change}
use Rattle.tt_sql.specs.meaning.Queries.{answer_of}
use Rattle.tt_sql.specs.meaning.Scopes.{query_scope}
use Rattle.tt_history.specs.declared.reply.Refusal.{Refusal}
use Rattle.tt_plain.specs.declared.store.Plain.{Plain}
use Rattle.tt_plain.specs.declared.store.PlainOpen.{PlainOpen}
use Rattle.tt_plain.specs.declared.store.PlainTable.{PlainTable}
use Rattle.tt_plain.specs.Answers.{◌>>=◌}
use Rattle.tt_plain.specs.asked.Asked.{Asked, request_asked}
use Rattle.tt_plain.specs.asked.Request.{Reads, Request, Writes}
use Rattle.tt_plain.specs.meaning.StagedRows.{copied}
use Rattle.tt_plain.specs.refusal.UnknownFile.{file_named}
use Rattle.tt_plain.specs.stored.Tables.{table_numbered}
use Rattle.tt_sql.specs.declared.change.Dml.TheVariants as dml
use Rattle.tt_history.specs.declared.reply.Refusal.TheVariants as refusal

-- The schemas of the tables that are read, in order. A table keeps its schema, whatever becomes of its name.
abbrev pub schema_numbered : Plain → ℕ → Option Schema
schema_numbered store number = option_map (λ (table : PlainTable). table.schema) (table_numbered store number)

abbrev pub schemas_read : Plain → List (ℕ × List Row) → List Schema
schemas_read store sources = filter_map (λ source. schema_numbered store source.0) sources

-- the rows over which a query is answered: those of its one table
abbrev pub rows_read : List (ℕ × List Row) → List Row
rows_read [] = []
rows_read (source ∷ sources) = source.1

-- the answer of a query; none where a value or a sum is out of range
unfoldable pub answer_seen : Plain → PlainOpen → Query → Option (List Row)
answer_seen store seen q = answer_of (query_scope (schemas_read store seen.sources) q) q (rows_read seen.sources)

-- the bytes of a staged file
abbrev pub file_bytes : Script → Option FileText → List ℕ
file_bytes program None = []
file_bytes program (Some file) = slice_range program.text file.start file.«end»

-- The rows that a change removes and adds, and its count, or why it is refused. An INSERT's query reads its sources, an UPDATE
-- and a DELETE the rows of the target, and a COPY the records of its file.
unfoldable pub change_seen : Script → Plain → PlainOpen → Schema → List Row → Dml → Changed
change_seen program store seen schema rows (dml.Insert i) = insert_change schema (schemas_read store seen.sources) (rows_read seen.sources) i
change_seen program store seen schema rows (dml.Update u) = update_change schema rows u
change_seen program store seen schema rows (dml.Delete d) = delete_change schema rows d
change_seen program store seen schema rows (dml.Copy c) = copied schema (file_bytes program (file_named program c.file.text))

pub data Outcome : Type 0 where
  Answers : (rows : List Row) → Outcome
  Does : (table : ℕ) (removed added : List Row) (count : ℕ) → Outcome
  Fails : Refusal → Outcome

abbrev pub query_outcome : Option (List Row) → Outcome
query_outcome None = Fails refusal.OutOfRange
query_outcome (Some rows) = Answers rows

abbrev pub change_outcome : ℕ → Changed → Outcome
change_outcome table (Changes removed added count) = Does table removed added count
change_outcome table (BadData number column) = Fails (refusal.BadData number column)
change_outcome table OutOfRange = Fails refusal.OutOfRange
change_outcome table (NullInRow column) = Fails (refusal.NullInRow column)

abbrev pub outcome_of_change : Asked → PlainOpen → Dml → Option Outcome
outcome_of_change asked seen d = do
  target ← seen.target
  schema ← schema_numbered asked.store target.0
  Some (change_outcome target.0 (change_seen asked.program asked.store seen schema target.1 d))

-- nothing but a query or a change is ever open
abbrev pub outcome_in : Asked → PlainOpen → Request → Option Outcome
outcome_in asked seen (Reads q) = Some (query_outcome (answer_seen asked.store seen q))
outcome_in asked seen (Writes d) = outcome_of_change asked seen d
outcome_in asked seen _ = None

unfoldable pub outcome_of : Asked → PlainOpen → Option Outcome
outcome_of asked seen = outcome_in asked seen (request_asked asked)
