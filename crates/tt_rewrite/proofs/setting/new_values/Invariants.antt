use Rattle.std.proofs.Common.{◌≡◌, drop, map}
use Rattle.std.specs.List.{zip}
use Rattle.tt_scope.specs.Places.{scope_in}
use Rattle.tt_sql.specs.meaning.Changes.{set_value}
use Rattle.tt_sql.specs.meaning.Queries.{all_some}
use Rattle.tt_rewrite.proofs.AllSome.{with_left}
use Rattle.tt_rewrite.proofs.setting.new_values.Given as goal

abbrev pub invariant-loop-at : goal.invariant-loop-at
invariant-loop-at l =
    with_left (set_value (scope_in l.setting.tables) l.setting.sets.now l.row) l.values.items (drop l.at (zip l.setting.schema.now.columns l.row.values))
    ≡ all_some (map (set_value (scope_in l.setting.tables) l.setting.sets.now l.row) (zip l.setting.schema.now.columns l.row.values))
