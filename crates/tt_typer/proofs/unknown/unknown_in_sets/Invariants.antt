use Rattle.std.proofs.Common.{◌≡◌, drop}
use Rattle.tt_plain.specs.Places.{earlier, leftmost, each}
use Rattle.tt_plain.specs.UnknownColumns.{unknown_in_set}
use Rattle.tt_typer.proofs.unknown.unknown_in_sets.Given as goal

abbrev pub invariant-loop-set : goal.invariant-loop-set
invariant-loop-set l = earlier l.found (leftmost (each (unknown_in_set l.scope.table.now l.scope.schema.now) (drop l.set-index l.sets))) ≡ leftmost (each (unknown_in_set l.scope.table.now l.scope.schema.now) l.sets)
