use Rattle.std.proofs.Common.{arith}
use Rattle.tt_plain.specs.TypeMismatches.{misfit_value}
use Rattle.tt_typer.proofs.Leftmost.{each_at_more}
use Rattle.tt_typer.proofs.values.misfit_in_values.Goals as goal

pub loop-at-preserved : goal.loop-at-preserved
loop-at-preserved c =
    rw (c.earlier-found.ensures, c.misfit_literal.ensures, c.target_kind.ensures)
    (each_at_more (misfit_value c.args.schema.now c.args.names.now) c.loop-at.found c.args.values.now c.loop-at.at c.index-values-at.result _ (omega arith) c.index-values-at.is c.loop-at.invariant)
