use Rattle.std.proofs.Common.{◌≡◌, drop, map}
use Rattle.tt_scope.specs.Places.{scope_in}
use Rattle.tt_sql.specs.meaning.Queries.{all_some}
use Rattle.tt_agg.specs.Groups.{group_row}
use Rattle.tt_agg.proofs.Left.{with_left}
use Rattle.tt_agg.proofs.aggregating.group_answers.Given as goal

abbrev pub invariant-loop-group : goal.invariant-loop-group
invariant-loop-group l = with_left (group_row (scope_in l.tables) l.selection) l.answer.items (drop l.group-index l.groups) ≡ all_some (map (group_row (scope_in l.tables) l.selection) l.groups)
