use Rattle.std.proofs.Common.{ap}
use Rattle.std.proofs.lemmas.List.{map-id}
use Rattle.tt_plain.specs.Places.{leftmost}
use Rattle.tt_plain.specs.WrongCounts.{named_again}
use Rattle.tt_typer.proofs.counts.listed_again.Goals as goal

pub returns-in-Some : goal.returns-in-Some
returns-in-Some c = rw (c.in-Some.is, c.named_again.ensures, c.as_slice.ensures) (ap (λ names. leftmost (named_again c.args.schema.now names)) (map-id c.in-Some.names))
