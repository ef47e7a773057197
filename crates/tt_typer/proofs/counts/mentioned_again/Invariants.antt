use Rattle.std.proofs.Common.{◌≡◌, drop, map}
use Rattle.tt_plain.specs.Places.{earlier, leftmost}
use Rattle.tt_plain.specs.WrongCounts.{mentions, later_ones}
use Rattle.tt_typer.proofs.Mentions.{left_after}
use Rattle.tt_typer.proofs.counts.mentioned_again.Given as goal

abbrev pub invariant-loop-name : goal.invariant-loop-name
invariant-loop-name g l = earlier l.found (leftmost (left_after l.seen (mentions l.text (map g.N.Named.name_of (drop l.name-index l.names))))) ≡ leftmost (later_ones (mentions l.text (map g.N.Named.name_of l.names)))
