use Rattle.std.proofs.Common.{◌≡◌, drop}
use Rattle.tt_plain.specs.Places.{earlier, leftmost, each}
use Rattle.tt_plain.specs.TypeMismatches.{misfit_in_tuple}
use Rattle.tt_typer.proofs.values.misfit_in_tuples.Given as goal

abbrev pub invariant-loop-tuple : goal.invariant-loop-tuple
invariant-loop-tuple l = earlier l.found (leftmost (each (misfit_in_tuple l.schema l.names) (drop l.tuple-index l.tuples))) ≡ leftmost (each (misfit_in_tuple l.schema l.names) l.tuples)
