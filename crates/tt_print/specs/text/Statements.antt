-- The words of a statement, and its one text.
use Rattle.std.specs.Prelude.{ℕ, List, [], ◌∷◌, ◌++◌, Option, Some, None, codes}
use Rattle.std.specs.List.{join_with_byte}
use Rattle.tt_value.specs.declared.name.TableName.{TableName}
use Rattle.tt_value.specs.declared.name.Name.{Name}
use Rattle.tt_sql.specs.declared.statement.Statement.{Statement}
use Rattle.tt_sql.specs.declared.statement.Statement.TheVariants.{Query, Dml, Create, Clone, Drop, Undrop, Truncate, Alter, Begin, Commit, Rollback, Wait as WaitFor, Explain, Show, Metrics, Depth}
use Rattle.tt_sql.specs.declared.statement.Wait.{Wait}
use Rattle.tt_sql.specs.declared.statement.TimeUnit.{TimeUnit}
use Rattle.tt_sql.specs.declared.statement.TimeUnit.TheVariants.{Days, Hours, Minutes, Seconds, Milliseconds}
use Rattle.tt_print.specs.text.Words.{Words, word_if, table_name_words, number_words, quoted}
use Rattle.tt_print.specs.text.Queries.{query_words}
use Rattle.tt_print.specs.text.Changes.{dml_words}
use Rattle.tt_print.specs.text.Tables.{created_words, cloned_words, alter_words}

abbrev pub unit_text : TimeUnit → List ℕ
unit_text Days = codes "DAYS"
unit_text Hours = codes "HOURS"
unit_text Minutes = codes "MINUTES"
unit_text Seconds = codes "SECONDS"
unit_text Milliseconds = codes "MILLISECONDS"

-- the unit is always written
abbrev pub wait_words : Wait → Words
wait_words wait =
    codes "CALL" ∷ (codes "SYSTEM$WAIT" ∷ (codes "(" ∷ (number_words wait.amount
    ++ (codes "," ∷ quoted (unit_text wait.unit) ∷ codes ")" ∷ []))))

abbrev pub front_text : Option Name → List ℕ
front_text None = []
front_text (Some front) = front.text ++ (46 ∷ [])

-- a table's name in quotes, with no blanks in it; no byte of a name is a quote
abbrev pub table_text : TableName → List ℕ
table_text table = 39 ∷ (front_text table.schema ++ (table.name.text ++ (39 ∷ [])))

abbrev pub depth_words : TableName → Words
depth_words table =
    codes "SELECT" ∷ codes "SYSTEM$CLUSTERING_DEPTH" ∷ codes "(" ∷ table_text table ∷ codes ")" ∷ []

abbrev pub metrics_words : Words
metrics_words = codes "SELECT" ∷ codes "*" ∷ codes "FROM" ∷ codes "INFORMATION_SCHEMA" ∷ codes "." ∷ codes "TABLE_STORAGE_METRICS" ∷ []

abbrev pub statement_words : Statement → Words
statement_words (Query query) = query_words query
statement_words (Dml dml) = dml_words dml
statement_words (Create created) = created_words created
statement_words (Clone cloned) = cloned_words cloned
statement_words (Drop table) = codes "DROP" ∷ codes "TABLE" ∷ table_name_words table
statement_words (Undrop table) = codes "UNDROP" ∷ codes "TABLE" ∷ table_name_words table
statement_words (Truncate table) = codes "TRUNCATE" ∷ codes "TABLE" ∷ table_name_words table
statement_words (Alter alter) = alter_words alter
statement_words Begin = codes "BEGIN" ∷ []
statement_words Commit = codes "COMMIT" ∷ []
statement_words Rollback = codes "ROLLBACK" ∷ []
statement_words (WaitFor wait) = wait_words wait
statement_words (Explain query) = codes "EXPLAIN" ∷ query_words query
statement_words (Show history) = codes "SHOW" ∷ codes "TABLES" ∷ word_if history (codes "HISTORY")
statement_words Metrics = metrics_words
statement_words (Depth table) = depth_words table

-- the words with a blank, which is byte 32, between any two
abbrev pub statement_text : Statement → List ℕ
statement_text statement = join_with_byte 32 (statement_words statement)
