use Rattle.std.proofs.Common.{◌≡◌, take}
use Rattle.tt_agg.specs.Lent.{lent}
use Rattle.tt_agg.proofs.aggregating.references.Given as goal

abbrev pub invariant-loop-row : goal.invariant-loop-row
invariant-loop-row l = lent l.group.items ≡ take l.row-index l.rows
