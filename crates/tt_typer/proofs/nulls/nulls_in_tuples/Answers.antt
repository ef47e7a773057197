use Rattle.std.proofs.Common.{arith}
use Rattle.tt_plain.specs.NullsInNotNull.{nulls_in_tuple}
use Rattle.tt_typer.proofs.Leftmost.{each_more}
use Rattle.tt_typer.proofs.nulls.nulls_in_tuples.Goals as goal

pub loop-tuple-preserved : goal.loop-tuple-preserved
loop-tuple-preserved c =
    rw (c.earlier-found.ensures, c.nulls_in_values.ensures, c.as_slice.ensures)
    (each_more (nulls_in_tuple c.args.schema.now c.args.names.now) c.loop-tuple.found c.args.tuples.now c.loop-tuple.tuple-index c.tuple-item.result _ (omega arith) c.tuple-item.is c.loop-tuple.invariant)
