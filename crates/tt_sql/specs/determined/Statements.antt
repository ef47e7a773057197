-- Statements that their marks determine: lists that have to stand there are not empty, and dates are days of the years
-- 1 to 9999. All that the grammar gives are among them, and those whose names have others in front.
use Rattle.std.specs.Prelude.{⊤}
use Rattle.tt_value.specs.values.RowText.{IsPrintableValue}
use Rattle.tt_sql.specs.declared.change.Dml.{Dml}
use Rattle.tt_sql.specs.declared.change.Dml.TheVariants as dml
use Rattle.tt_sql.specs.declared.change.InsertSource.{InsertSource}
use Rattle.tt_sql.specs.declared.change.InsertSource.TheVariants as source
use Rattle.tt_sql.specs.declared.change.Set.{Set}
use Rattle.tt_sql.specs.declared.change.Tuple.{Tuple}
use Rattle.tt_sql.specs.declared.statement.Statement.{Statement}
use Rattle.tt_sql.specs.declared.statement.Statement.TheVariants as statement
use Rattle.tt_sql.specs.determined.Expressions.{IsGivenExpr, IsGivenPredicate}
use Rattle.tt_sql.specs.trees.Lists.{IsListed, WhenThere}
use Rattle.tt_sql.specs.determined.Queries.{IsGivenSource, IsGivenQuery}

abbrev pub IsGivenTuple : Tuple → Type 0
IsGivenTuple t = IsListed (λ l. IsPrintableValue l.value) t.values

abbrev pub IsGivenInsertSource : InsertSource → Type 0
IsGivenInsertSource (source.Values tuples) = IsListed IsGivenTuple tuples
IsGivenInsertSource (source.Query q) = IsGivenQuery q

abbrev pub IsGivenSet : Set → Type 0
IsGivenSet s = IsGivenExpr s.value

abbrev pub IsGivenDml : Dml → Type 0
IsGivenDml (dml.Insert i) = WhenThere (λ names. IsListed (λ n. ⊤) names) i.columns × IsGivenInsertSource i.source
IsGivenDml (dml.Update u) = IsListed IsGivenSet u.sets × WhenThere IsGivenPredicate u.filter
IsGivenDml (dml.Delete d) = WhenThere IsGivenPredicate d.filter
IsGivenDml (dml.Copy c) = ⊤

abbrev pub IsGivenStatement : Statement → Type 0
IsGivenStatement (statement.Query q) = IsGivenQuery q
IsGivenStatement (statement.Dml d) = IsGivenDml d
IsGivenStatement (statement.Create c) = IsListed (λ d. ⊤) c.columns
IsGivenStatement (statement.Clone c) = IsGivenSource c.source
IsGivenStatement (statement.Explain q) = IsGivenQuery q
IsGivenStatement _ = ⊤
