-- The tables that a statement reads or changes, in the order in which it names them.
use Rattle.std.specs.Prelude.{◌≡◌, ⊤, ℕ, List, [], ◌∷◌, slice_get, Option, Some, None}
use Rattle.tt_value.specs.declared.value.Schema.{Schema}
use Rattle.tt_value.specs.declared.name.TableName.{TableName}
use Rattle.tt_sql.specs.meaning.Scopes.{query_tables}
use Rattle.tt_sql.specs.declared.change.Dml.{Dml}
use Rattle.tt_sql.specs.declared.change.Dml.TheVariants as dml
use Rattle.tt_sql.specs.declared.change.InsertSource.{InsertSource}
use Rattle.tt_sql.specs.declared.change.InsertSource.TheVariants as source
use Rattle.tt_sql.specs.declared.table.Change.{Change}
use Rattle.tt_sql.specs.declared.table.Change.TheVariants as change
use Rattle.tt_sql.specs.declared.statement.Statement.{Statement}
use Rattle.tt_sql.specs.declared.statement.Statement.TheVariants as statement

abbrev pub source_tables : InsertSource → List TableName
source_tables (source.Values tuples) = []
source_tables (source.Query q) = query_tables q

abbrev pub dml_tables : Dml → List TableName
dml_tables (dml.Insert i) = i.table ∷ source_tables i.source
dml_tables (dml.Update u) = u.table ∷ []
dml_tables (dml.Delete d) = d.table ∷ []
dml_tables (dml.Copy c) = c.table ∷ []

-- beside the table that is altered
abbrev pub change_tables : Change → List TableName
change_tables (change.SwapWith other) = other ∷ []
change_tables (change.RenameTo new) = []
change_tables (change.SetRetention days) = []
change_tables (change.ClusterBy name) = []
change_tables change.DropClusteringKey = []
change_tables change.SuspendRecluster = []
change_tables change.ResumeRecluster = []

-- A table that the statement makes or brings back is not among them.
abbrev pub tables_of : Statement → List TableName
tables_of (statement.Query q) = query_tables q
tables_of (statement.Explain q) = query_tables q
tables_of (statement.Dml d) = dml_tables d
tables_of (statement.Create c) = []
tables_of (statement.Clone c) = c.source.table ∷ []
tables_of (statement.Drop table) = table ∷ []
tables_of (statement.Undrop table) = []
tables_of (statement.Truncate table) = table ∷ []
tables_of (statement.Alter a) = a.table ∷ change_tables a.change
tables_of statement.Begin = []
tables_of statement.Commit = []
tables_of statement.Rollback = []
tables_of (statement.Wait w) = []
tables_of (statement.Show history) = []
tables_of statement.Metrics = []
tables_of (statement.Depth table) = table ∷ []

abbrev pub schema_or_none : Option Schema → Schema
schema_or_none None = record { columns = [] }
schema_or_none (Some schema) = schema

-- the schema of the table that is named so late among them, from 0
abbrev pub schema_at : List Schema → ℕ → Schema
schema_at schemas k = schema_or_none (slice_get schemas k)

-- ---- statements whose queries are over one table each

abbrev pub TakesFromOneTable : InsertSource → Type 0
TakesFromOneTable (source.Values tuples) = ⊤
TakesFromOneTable (source.Query q) = q.joins ≡ []

abbrev pub ReadsOneTable : Dml → Type 0
ReadsOneTable (dml.Insert i) = TakesFromOneTable i.source
ReadsOneTable (dml.Update u) = ⊤
ReadsOneTable (dml.Delete d) = ⊤
ReadsOneTable (dml.Copy c) = ⊤

abbrev pub IsOverOneTable : Statement → Type 0
IsOverOneTable (statement.Query q) = q.joins ≡ []
IsOverOneTable (statement.Explain q) = q.joins ≡ []
IsOverOneTable (statement.Dml d) = ReadsOneTable d
IsOverOneTable _ = ⊤
