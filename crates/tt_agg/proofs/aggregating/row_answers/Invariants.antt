use Rattle.std.proofs.Common.{◌≡◌, drop, map}
use Rattle.tt_scope.specs.Places.{scope_in}
use Rattle.tt_sql.specs.meaning.Queries.{all_some}
use Rattle.tt_agg.specs.Selected.{single_row}
use Rattle.tt_agg.proofs.Left.{with_left}
use Rattle.tt_agg.proofs.aggregating.row_answers.Given as goal

abbrev pub invariant-loop-row : goal.invariant-loop-row
invariant-loop-row l = with_left (single_row (scope_in l.tables) l.selection) l.answer.items (drop l.row-index l.rows) ≡ all_some (map (single_row (scope_in l.tables) l.selection) l.rows)
