use Rattle.std.proofs.Common.{◌≡◌, drop}
use Rattle.tt_plain.specs.Places.{earlier, leftmost, each}
use Rattle.tt_plain.specs.WrongCounts.{miscounted_tuple}
use Rattle.tt_typer.proofs.counts.miscounted_tuples.Given as goal

abbrev pub invariant-loop-tuple : goal.invariant-loop-tuple
invariant-loop-tuple l = earlier l.found (leftmost (each (miscounted_tuple l.wanted) (drop l.tuple-index l.tuples))) ≡ leftmost (each (miscounted_tuple l.wanted) l.tuples)
