use Rattle.std.proofs.Common.{◌≡◌, map, take}
use Rattle.tt_sql.specs.meaning.Scopes.{query_scope}
use Rattle.tt_order.specs.PlacedKeys.{placed}
use Rattle.tt_order.proofs.keys.keys_of.Given as goal

abbrev pub invariant-loop-key : goal.invariant-loop-key
invariant-loop-key l = l.keys.items ≡ map (placed (query_scope l.schemas l.query) l.query.selection) (take l.key-index l.key-items)
