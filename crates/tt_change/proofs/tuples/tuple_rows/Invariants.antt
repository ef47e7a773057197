use Rattle.std.proofs.Common.{◌≡◌, take, map}
use Rattle.tt_change.specs.Cells.{stored_tuple}
use Rattle.tt_change.proofs.tuples.tuple_rows.Given as goal

abbrev pub invariant-loop-tuple : goal.invariant-loop-tuple
invariant-loop-tuple l = l.rows.items ≡ map (stored_tuple l.schema l.names) (take l.tuple-index l.tuples)
