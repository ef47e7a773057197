use Rattle.std.proofs.Common.{◌≡◌, drop, map}
use Rattle.tt_plain.specs.Places.{earlier, leftmost, each}
use Rattle.tt_plain.specs.WrongCounts.{mention, mentions}
use Rattle.tt_typer.proofs.counts.mentioned.Given as goal

abbrev pub invariant-loop-name : goal.invariant-loop-name
invariant-loop-name g l = earlier l.found (leftmost (each (λ x. mention l.text (g.N.Named.name_of x)) (drop l.name-index l.names))) ≡ leftmost (mentions l.text (map g.N.Named.name_of l.names))
