use Rattle.std.proofs.Common.{arith}
use Rattle.tt_plain.specs.UnknownColumns.{unknown_among}
use Rattle.tt_typer.proofs.Leftmost.{each_more}
use Rattle.tt_typer.proofs.unknown.unknown_listed.Goals as goal

pub loop-name-preserved : goal.loop-name-preserved
loop-name-preserved c =
    rw (c.earlier-found.ensures, c.unknown_among.ensures)
    (each_more (unknown_among c.args.schema.now) c.loop-name.found c.args.names.now c.loop-name.name-index c.name-item.result _ (omega arith) c.name-item.is c.loop-name.invariant)
