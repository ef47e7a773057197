use Rattle.std.proofs.Common.{◌≡◌, drop, map}
use Rattle.tt_value.specs.declared.value.Column.{Column}
use Rattle.tt_plain.specs.Places.{earlier, leftmost, each}
use Rattle.tt_plain.specs.WrongCounts.{mentions, later_ones, named_again}
use Rattle.tt_typer.proofs.counts.named_again.Given as goal

abbrev pub invariant-loop-column : goal.invariant-loop-column
invariant-loop-column g l = earlier l.found (leftmost (each (λ (column : Column). later_ones (mentions column.name (map g.N.Named.name_of l.names))) (drop l.column-index l.column-items))) ≡ leftmost (named_again l.schema (map g.N.Named.name_of l.names))
