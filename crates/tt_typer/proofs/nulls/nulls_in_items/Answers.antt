use Rattle.std.proofs.Common.{arith}
use Rattle.tt_plain.specs.NullsInNotNull.{null_in_item}
use Rattle.tt_typer.proofs.Leftmost.{each_at_more}
use Rattle.tt_typer.proofs.nulls.nulls_in_items.Goals as goal

pub loop-at-preserved : goal.loop-at-preserved
loop-at-preserved c =
    rw (c.earlier-found.ensures, c.null_item.ensures, c.target_column.ensures)
    (each_at_more (null_in_item c.args.schema.now c.args.names.now) c.loop-at.found c.args.items.now c.loop-at.at c.index-items-at.result _ (omega arith) c.index-items-at.is c.loop-at.invariant)
