use Rattle.std.proofs.Common.{arith}
use Rattle.tt_plain.specs.TypeMismatches.{misfit_item}
use Rattle.tt_typer.specs.TableScopes.{scope_in}
use Rattle.tt_typer.proofs.Leftmost.{each_at_more}
use Rattle.tt_typer.proofs.values.misfit_items.Goals as goal

pub loop-at-preserved : goal.loop-at-preserved
loop-at-preserved c =
    rw (c.earlier-found.ensures, c.unless.ensures, c.item_fits.ensures, c.item_begin.ensures, c.target_kind-wanted.ensures)
    (each_at_more (misfit_item c.args.target.now c.args.names.now (scope_in c.args.read.now)) c.loop-at.found c.args.items.now c.loop-at.at c.index-items-at.result _ (omega arith) c.index-items-at.is c.loop-at.invariant)
