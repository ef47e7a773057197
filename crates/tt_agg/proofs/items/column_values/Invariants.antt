use Rattle.std.proofs.Common.{◌≡◌, ◌++◌, drop}
use Rattle.tt_scope.specs.Places.{scope_in}
use Rattle.tt_sql.specs.meaning.Queries.{column_values}
use Rattle.tt_agg.specs.Lent.{lent}
use Rattle.tt_agg.proofs.items.column_values.Given as goal

abbrev pub invariant-loop-row : goal.invariant-loop-row
invariant-loop-row l = lent l.values.items ++ column_values (scope_in l.tables) l.column (lent (drop l.row-index l.group)) ≡ column_values (scope_in l.tables) l.column (lent l.group)
