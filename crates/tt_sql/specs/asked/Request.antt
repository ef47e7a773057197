-- What a statement asks for, with its parts. A text that is no statement has the place of its fault.
use Rattle.std.specs.Prelude.{Err, Ok, Result, ℕ}
use Rattle.tt_sql.specs.declared.request.Definition.TheVariants.{Alters, Clones, Creates, Drops, Truncates, Undrops}
use Rattle.tt_sql.specs.declared.request.Request.{Request}
use Rattle.tt_sql.specs.declared.request.Request.TheVariants.{Begins, Commits, Defines, Reads, RollsBack, Tells, Unreadable, Waits, Writes}
use Rattle.tt_sql.specs.declared.request.Telling.TheVariants.{Explains, Gauges, Measures, Shows}
use Rattle.tt_sql.specs.declared.statement.Statement.{Statement}
use Rattle.tt_sql.specs.declared.statement.Syntax.{Syntax}
use Rattle.tt_sql.specs.declared.statement.Statement.TheVariants as statement

abbrev pub request_in : Statement → Request
request_in (statement.Query q) = Reads q
request_in (statement.Dml d) = Writes d
request_in (statement.Create c) = Defines (Creates c)
request_in (statement.Clone c) = Defines (Clones c)
request_in (statement.Drop name) = Defines (Drops name)
request_in (statement.Undrop name) = Defines (Undrops name)
request_in (statement.Truncate name) = Defines (Truncates name)
request_in (statement.Alter a) = Defines (Alters a.table a.change)
request_in statement.Begin = Begins
request_in statement.Commit = Commits
request_in statement.Rollback = RollsBack
request_in (statement.Wait w) = Waits w
request_in (statement.Explain q) = Tells (Explains q)
request_in (statement.Show history) = Tells (Shows history)
request_in statement.Metrics = Tells Measures
request_in (statement.Depth name) = Tells (Gauges name)

-- of what was read of its text: a statement, or the place of a fault
abbrev pub request_of : Result Statement ℕ → Request
request_of (Err place) = Unreadable place
request_of (Ok s) = request_in s

-- what was read of a text, as the definitions have it
abbrev pub as_read : Result Statement Syntax → Result Statement ℕ
as_read (Ok s) = Ok s
as_read (Err syntax) = Err syntax.place
