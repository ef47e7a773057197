use Rattle.std.proofs.Common.{arith}
use Rattle.tt_plain.specs.UnknownColumns.{unknown_in_set}
use Rattle.tt_typer.proofs.Leftmost.{each_more}
use Rattle.tt_typer.proofs.unknown.unknown_in_sets.Goals as goal

pub loop-set-preserved : goal.loop-set-preserved
loop-set-preserved c =
    rw (c.earlier-found.ensures, c.unknown_in_set.ensures)
    (each_more (unknown_in_set c.args.scope.now.table.now c.args.scope.now.schema.now) c.loop-set.found c.args.sets.now c.loop-set.set-index c.set-item.result _ (omega arith) c.set-item.is c.loop-set.invariant)
