use Rattle.std.proofs.Common.{arith}
use Rattle.tt_plain.specs.TypeMismatches.{misfit_beside}
use Rattle.tt_typer.specs.TableScopes.{scope_in}
use Rattle.tt_typer.proofs.Leftmost.{each_more}
use Rattle.tt_typer.proofs.mismatches.misfit_in_list.Goals as goal

pub loop-literal-preserved : goal.loop-literal-preserved
loop-literal-preserved c =
    rw (c.earlier-found.ensures, c.misfit_beside.ensures)
    (each_more (misfit_beside (scope_in c.args.scope.now) c.args.left.now) c.loop-literal.found c.args.literals.now c.loop-literal.literal-index c.literal-item.result _ (omega arith) c.literal-item.is c.loop-literal.invariant)
