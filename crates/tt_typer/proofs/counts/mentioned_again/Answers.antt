use Rattle.std.proofs.Common.{arith}
use Rattle.tt_typer.proofs.Mentions.{again_more}
use Rattle.tt_typer.proofs.counts.mentioned_again.Goals as goal

pub loop-name-preserved : goal.loop-name-preserved
loop-name-preserved g c =
    rw (c.earlier-found.ensures, c.later_only.ensures, c.seen_after-seen.ensures, c.mention-here.ensures)
    (again_more g.N.Named.name_of c.args.text.now c.loop-name.seen c.loop-name.found c.args.names.now c.loop-name.name-index c.name-item.result _ (omega arith) c.name-item.is c.loop-name.invariant)
