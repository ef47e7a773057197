use Rattle.std.proofs.Common.{◌≡◌, length}
use Rattle.tt_plain.specs.Places.{earlier, leftmost}
use Rattle.tt_plain.specs.WrongCounts.{defined_again, defined_names}
use Rattle.tt_typer.proofs.counts.defined_again.Given as goal

abbrev pub invariant-loop-column : goal.invariant-loop-column
invariant-loop-column l = earlier l.found (leftmost (defined_again (defined_names l.left))) ≡ leftmost (defined_again (defined_names l.columns))

abbrev pub decreases-loop-column : goal.decreases-loop-column
decreases-loop-column l = length l.left
