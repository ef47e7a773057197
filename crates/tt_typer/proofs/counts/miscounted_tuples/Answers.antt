use Rattle.std.proofs.Common.{arith}
use Rattle.tt_plain.specs.WrongCounts.{miscounted_tuple}
use Rattle.tt_typer.proofs.Leftmost.{each_more}
use Rattle.tt_typer.proofs.counts.miscounted_tuples.Goals as goal

pub loop-tuple-preserved : goal.loop-tuple-preserved
loop-tuple-preserved c =
    rw (c.earlier-found.ensures, c.unless_equal.ensures, c.len.ensures)
    (each_more (miscounted_tuple c.args.wanted) c.loop-tuple.found c.args.tuples.now c.loop-tuple.tuple-index c.tuple-item.result _ (omega arith) c.tuple-item.is c.loop-tuple.invariant)
