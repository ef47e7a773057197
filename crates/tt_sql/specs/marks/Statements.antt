-- The marks of statements.
use Rattle.std.specs.Prelude.{ℕ, List, [], ◌∷◌, ◌++◌}
use Rattle.tt_sql.specs.declared.statement.Statement.{Statement}
use Rattle.tt_sql.specs.declared.statement.Statement.TheVariants as statement
use Rattle.tt_sql.specs.declared.statement.TimeUnit.{TimeUnit}
use Rattle.tt_sql.specs.declared.statement.TimeUnit.TheVariants as unit
use Rattle.tt_sql.specs.declared.statement.Wait.{Wait}
use Rattle.tt_sql.specs.grammar.Grammar.{Mark, Way}
use Rattle.tt_sql.specs.marks.Expressions.{flag_marks, number_marks, table_marks}
use Rattle.tt_sql.specs.marks.Queries.{query_marks}
use Rattle.tt_sql.specs.marks.Changes.{dml_marks}
use Rattle.tt_sql.specs.marks.Tables.{create_marks, clone_marks, alter_marks}

-- the place of the unit's word among the words of units
abbrev pub unit_number : TimeUnit → ℕ
unit_number unit.Days = 0
unit_number unit.Hours = 1
unit_number unit.Minutes = 2
unit_number unit.Seconds = 3
unit_number unit.Milliseconds = 4

abbrev pub time_unit_marks : TimeUnit → List Mark
time_unit_marks u = Way (unit_number u) ∷ []

abbrev pub wait_marks : Wait → List Mark
wait_marks w = number_marks w.amount ++ time_unit_marks w.«unit»

abbrev pub statement_marks : Statement → List Mark
statement_marks (statement.Query q) = query_marks q ++ Way 0 ∷ []
statement_marks (statement.Dml d) = dml_marks d
statement_marks (statement.Create c) = create_marks c ++ Way 5 ∷ []
statement_marks (statement.Clone c) = clone_marks c ++ Way 6 ∷ []
statement_marks (statement.Drop t) = table_marks t ++ Way 7 ∷ []
statement_marks (statement.Undrop t) = table_marks t ++ Way 8 ∷ []
statement_marks (statement.Truncate t) = table_marks t ++ Way 9 ∷ []
statement_marks (statement.Alter a) = alter_marks a ++ Way 10 ∷ []
statement_marks statement.Begin = Way 11 ∷ []
statement_marks statement.Commit = Way 12 ∷ []
statement_marks statement.Rollback = Way 13 ∷ []
statement_marks (statement.Wait w) = wait_marks w ++ Way 14 ∷ []
statement_marks (statement.Explain q) = query_marks q ++ Way 15 ∷ []
statement_marks (statement.Show history) = flag_marks history ++ Way 16 ∷ []
statement_marks statement.Metrics = Way 17 ∷ []
statement_marks (statement.Depth t) = table_marks t ++ Way 18 ∷ []
