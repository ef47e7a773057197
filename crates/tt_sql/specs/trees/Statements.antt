-- The statements that the grammar gives, with at most so many levels.
use Rattle.std.specs.Prelude.{ℕ, ⊤}
use Rattle.tt_sql.specs.declared.change.Dml.{Dml}
use Rattle.tt_sql.specs.declared.change.Dml.TheVariants as dml
use Rattle.tt_sql.specs.declared.change.InsertSource.{InsertSource}
use Rattle.tt_sql.specs.declared.change.InsertSource.TheVariants as source
use Rattle.tt_sql.specs.declared.change.Set.{Set}
use Rattle.tt_sql.specs.declared.change.Tuple.{Tuple}
use Rattle.tt_sql.specs.declared.table.Change.{Change}
use Rattle.tt_sql.specs.declared.table.Change.TheVariants as change
use Rattle.tt_sql.specs.declared.table.ColumnDefinition.{ColumnDefinition}
use Rattle.tt_sql.specs.declared.table.TableKind.{TableKind}
use Rattle.tt_sql.specs.declared.table.TableKind.TheVariants as tables
use Rattle.tt_sql.specs.declared.table.TableOptions.{TableOptions}
use Rattle.tt_sql.specs.declared.statement.Statement.{Statement}
use Rattle.tt_sql.specs.declared.statement.Statement.TheVariants as statement
use Rattle.tt_sql.specs.trees.Lists.{IsListed, WhenThere}
use Rattle.tt_sql.specs.trees.Expressions.{IsWrittenName, IsWrittenTable, IsWrittenNumber, IsWrittenQuoted, IsWrittenLiteral, IsWrittenExpr, IsWrittenPredicate}
use Rattle.tt_sql.specs.trees.Queries.{IsShortNumber, IsWrittenSource, IsWrittenQuery}

abbrev pub IsWrittenTuple : Tuple → Type 0
IsWrittenTuple t = IsListed IsWrittenLiteral t.values

abbrev pub IsWrittenInsertSource : ℕ → InsertSource → Type 0
IsWrittenInsertSource levels (source.Values tuples) = IsListed IsWrittenTuple tuples
IsWrittenInsertSource levels (source.Query q) = IsWrittenQuery levels q

abbrev pub IsWrittenSet : ℕ → Set → Type 0
IsWrittenSet levels s = IsWrittenName s.column × IsWrittenExpr levels s.value

abbrev pub IsWrittenDml : ℕ → Dml → Type 0
IsWrittenDml levels (dml.Insert i) = IsWrittenTable i.table × WhenThere (IsListed IsWrittenName) i.columns × IsWrittenInsertSource levels i.source
IsWrittenDml levels (dml.Update u) = IsWrittenTable u.table × IsListed (IsWrittenSet levels) u.sets × WhenThere (IsWrittenPredicate levels) u.filter
IsWrittenDml levels (dml.Delete d) = IsWrittenTable d.table × WhenThere (IsWrittenPredicate levels) d.filter
IsWrittenDml levels (dml.Copy c) = IsWrittenTable c.table × IsWrittenQuoted c.file

abbrev pub IsWrittenDefinition : ColumnDefinition → Type 0
IsWrittenDefinition d = IsWrittenName d.name

-- there are no temporary tables yet
abbrev pub IsWrittenKind : TableKind → Type 0
IsWrittenKind tables.Permanent = ⊤
IsWrittenKind tables.Transient = ⊤
IsWrittenKind tables.Temporary = ⊥

abbrev pub IsWrittenOptions : TableOptions → Type 0
IsWrittenOptions o = WhenThere IsWrittenName o.cluster_by × WhenThere IsWrittenNumber o.retention

abbrev pub IsWrittenChange : Change → Type 0
IsWrittenChange (change.RenameTo t) = IsWrittenTable t
IsWrittenChange (change.SwapWith t) = IsWrittenTable t
IsWrittenChange (change.SetRetention n) = IsWrittenNumber n
IsWrittenChange (change.ClusterBy n) = IsWrittenName n
IsWrittenChange change.DropClusteringKey = ⊤
IsWrittenChange change.SuspendRecluster = ⊤
IsWrittenChange change.ResumeRecluster = ⊤

abbrev pub IsWrittenStatement : ℕ → Statement → Type 0
IsWrittenStatement levels (statement.Query q) = IsWrittenQuery levels q
IsWrittenStatement levels (statement.Dml d) = IsWrittenDml levels d
IsWrittenStatement levels (statement.Create c) = IsWrittenKind c.kind × IsWrittenTable c.table × IsListed IsWrittenDefinition c.columns × IsWrittenOptions c.options
IsWrittenStatement levels (statement.Clone c) = IsWrittenKind c.kind × IsWrittenTable c.table × IsWrittenSource c.source
IsWrittenStatement levels (statement.Drop t) = IsWrittenTable t
IsWrittenStatement levels (statement.Undrop t) = IsWrittenTable t
IsWrittenStatement levels (statement.Truncate t) = IsWrittenTable t
IsWrittenStatement levels (statement.Alter a) = IsWrittenTable a.table × IsWrittenChange a.change
IsWrittenStatement levels statement.Begin = ⊤
IsWrittenStatement levels statement.Commit = ⊤
IsWrittenStatement levels statement.Rollback = ⊤
IsWrittenStatement levels (statement.Wait w) = IsShortNumber w.amount
IsWrittenStatement levels (statement.Explain q) = IsWrittenQuery levels q
IsWrittenStatement levels (statement.Show history) = ⊤
IsWrittenStatement levels statement.Metrics = ⊤
IsWrittenStatement levels (statement.Depth t) = IsWrittenTable t
