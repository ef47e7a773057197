use Rattle.std.proofs.Common.{arith}
use Rattle.tt_plain.specs.TypeMismatches.{misfit_column}
use Rattle.tt_typer.proofs.Leftmost.{each_at_more}
use Rattle.tt_typer.proofs.values.misfit_star.Goals as goal

pub loop-at-preserved : goal.loop-at-preserved
loop-at-preserved c =
    rw (c.earlier-found.ensures, c.unless.ensures, c.fits.ensures, c.target_kind-wanted.ensures)
    (each_at_more (misfit_column c.args.target.now c.args.names.now c.args.place) c.loop-at.found c.args.columns.now c.loop-at.at c.index-columns-at.result _ (omega arith) c.index-columns-at.is c.loop-at.invariant)
