use Rattle.std.proofs.Common.{◌≡◌, drop}
use Rattle.tt_plain.specs.Places.{earlier, leftmost, each}
use Rattle.tt_plain.specs.NullsInNotNull.{nulls_in_tuple}
use Rattle.tt_typer.proofs.nulls.nulls_in_tuples.Given as goal

abbrev pub invariant-loop-tuple : goal.invariant-loop-tuple
invariant-loop-tuple l = earlier l.found (leftmost (each (nulls_in_tuple l.schema l.names) (drop l.tuple-index l.tuples))) ≡ leftmost (each (nulls_in_tuple l.schema l.names) l.tuples)
