use Rattle.std.proofs.Common.{◌≡◌, drop}
use Rattle.tt_scope.specs.Places.{scope_in}
use Rattle.tt_sql.specs.meaning.Queries.{item_value}
use Rattle.tt_agg.specs.Lent.{lent}
use Rattle.tt_agg.specs.Selected.{item_values}
use Rattle.tt_agg.proofs.Left.{with_left}
use Rattle.tt_agg.proofs.items.item_values.Given as goal

abbrev pub invariant-loop-item : goal.invariant-loop-item
invariant-loop-item l = with_left (item_value (scope_in l.tables) (lent l.group)) l.values.items (drop l.item-index l.items) ≡ item_values (scope_in l.tables) (lent l.group) l.items
