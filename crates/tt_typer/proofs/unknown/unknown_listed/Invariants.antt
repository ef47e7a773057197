use Rattle.std.proofs.Common.{◌≡◌, drop}
use Rattle.tt_plain.specs.Places.{earlier, leftmost, each}
use Rattle.tt_plain.specs.UnknownColumns.{unknown_among}
use Rattle.tt_typer.proofs.unknown.unknown_listed.Given as goal

abbrev pub invariant-loop-name : goal.invariant-loop-name
invariant-loop-name l = earlier l.found (leftmost (each (unknown_among l.schema) (drop l.name-index l.names))) ≡ leftmost (each (unknown_among l.schema) l.names)
