use Rattle.std.proofs.Common.{arith}
use Rattle.tt_plain.specs.NullsInNotNull.{null_value}
use Rattle.tt_typer.proofs.Leftmost.{each_at_more}
use Rattle.tt_typer.proofs.nulls.nulls_in_values.Goals as goal

pub loop-at-preserved : goal.loop-at-preserved
loop-at-preserved c =
    rw (c.earlier-found.ensures, c.null_literal.ensures, c.target_column.ensures)
    (each_at_more (null_value c.args.schema.now c.args.names.now) c.loop-at.found c.args.values.now c.loop-at.at c.index-values-at.result _ (omega arith) c.index-values-at.is c.loop-at.invariant)
