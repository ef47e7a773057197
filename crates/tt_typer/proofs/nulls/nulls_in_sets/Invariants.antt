use Rattle.std.proofs.Common.{◌≡◌, drop}
use Rattle.tt_plain.specs.Places.{earlier, leftmost, each}
use Rattle.tt_plain.specs.NullsInNotNull.{null_set}
use Rattle.tt_typer.proofs.nulls.nulls_in_sets.Given as goal

abbrev pub invariant-loop-set : goal.invariant-loop-set
invariant-loop-set l = earlier l.found (leftmost (each (null_set l.schema) (drop l.set-index l.sets))) ≡ leftmost (each (null_set l.schema) l.sets)
