use Rattle.std.proofs.Common.{ap, sym, arith}
use Rattle.tt_plain.specs.Places.{leftmost}
use Rattle.tt_plain.specs.WrongCounts.{mention}
use Rattle.tt_typer.proofs.Leftmost.{each_more, each_map}
use Rattle.tt_typer.proofs.counts.mentioned.Goals as goal

pub loop-name-init : goal.loop-name-init
loop-name-init g c = ap leftmost (sym (each_map (mention c.args.text.now) g.N.Named.name_of c.args.names.now))

pub loop-name-preserved : goal.loop-name-preserved
loop-name-preserved g c =
    rw (c.earlier-found.ensures, c.mention.ensures)
    (each_more (λ x. mention c.args.text.now (g.N.Named.name_of x)) c.loop-name.found c.args.names.now c.loop-name.name-index c.name-item.result _ (omega arith) c.name-item.is c.loop-name.invariant)
