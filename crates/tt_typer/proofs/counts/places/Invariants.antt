use Rattle.std.proofs.Common.{◌≡◌, drop}
use Rattle.tt_plain.specs.Places.{earlier, leftmost}
use Rattle.tt_plain.specs.WrongCounts.{places_of, defined_names}
use Rattle.tt_typer.proofs.counts.places.Given as goal

abbrev pub invariant-loop-column : goal.invariant-loop-column
invariant-loop-column l = earlier l.found (leftmost (places_of (defined_names (drop l.column-index l.columns)))) ≡ leftmost (places_of (defined_names l.columns))
