use Rattle.tt_typer.proofs.Mentions.{defined_more}
use Rattle.tt_typer.proofs.counts.defined_again.Goals as goal

pub loop-column-preserved : goal.loop-column-preserved
loop-column-preserved c =
    rw (c.earlier-found.ensures, c.mentioned.ensures)
    (defined_more c.loop-column.found c.loop-column.left.now c.in-Some.column.now c.in-Some.rest.now _ c.in-Some.ensures.cases.0 c.loop-column.invariant)
