use Rattle.std.proofs.Common.{arith}
use Rattle.tt_plain.specs.NullsInNotNull.{null_set}
use Rattle.tt_typer.proofs.Leftmost.{each_more}
use Rattle.tt_typer.proofs.nulls.nulls_in_sets.Goals as goal

pub loop-set-preserved : goal.loop-set-preserved
loop-set-preserved c =
    rw (c.earlier-found.ensures, c.null_set.ensures)
    (each_more (null_set c.args.schema.now) c.loop-set.found c.args.sets.now c.loop-set.set-index c.set-item.result _ (omega arith) c.set-item.is c.loop-set.invariant)
