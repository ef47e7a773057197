use Rattle.std.proofs.Common.{◌≡◌, take}
use Rattle.tt_sql.specs.meaning.Queries.{sorted_by}
use Rattle.tt_order.specs.PlacedKeys.{by_keys}
use Rattle.tt_order.proofs.arranging.first_rows.Given as goal

-- the first rows of those that are kept are the first of those that were looked at
abbrev pub invariant-loop-row : goal.invariant-loop-row
invariant-loop-row l = take l.most (sorted_by (by_keys l.keys) l.kept.items) ≡ take l.most (sorted_by (by_keys l.keys) l.yielded)
