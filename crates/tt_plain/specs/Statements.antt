-- An INSERT as a statement, and one of these written rows.
use Rattle.std.specs.Prelude.{◌≡◌, List}
use Rattle.tt_sql.specs.declared.change.Dml.TheVariants as dml
use Rattle.tt_sql.specs.declared.change.Insert.{Insert}
use Rattle.tt_sql.specs.declared.change.InsertSource.TheVariants as source
use Rattle.tt_sql.specs.declared.change.Tuple.{Tuple}
use Rattle.tt_sql.specs.declared.statement.Statement.{Statement}
use Rattle.tt_sql.specs.declared.statement.Statement.TheVariants as statement

abbrev pub insertion : Insert → Statement
insertion insert = statement.Dml (dml.Insert insert)

abbrev pub InsertsTuples : Insert → List Tuple → Type 0
InsertsTuples insert tuples = insert.source ≡ source.Values tuples
