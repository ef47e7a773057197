use Rattle.std.proofs.Common.{◌≡◌, take, map}
use Rattle.tt_change.specs.Cells.{stored_by_name}
use Rattle.tt_change.proofs.tuples.row_by_names.Given as goal

abbrev pub invariant-loop-column : goal.invariant-loop-column
invariant-loop-column l = l.values.items ≡ map (stored_by_name l.names l.literals) (take l.column-index l.columns)
