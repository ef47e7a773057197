use Rattle.std.proofs.Common.{arith}
use Rattle.tt_plain.specs.UnknownColumns.{unknown_in_item}
use Rattle.tt_typer.specs.TableScopes.{scope_in}
use Rattle.tt_typer.proofs.Leftmost.{each_more}
use Rattle.tt_typer.proofs.unknown.unknown_in_items.Goals as goal

pub loop-item-preserved : goal.loop-item-preserved
loop-item-preserved c =
    rw (c.earlier-found.ensures, c.unknown_in_item.ensures)
    (each_more (unknown_in_item (scope_in c.args.scope.now)) c.loop-item.found c.args.items.now c.loop-item.item-index c.item-item.result _ (omega arith) c.item-item.is c.loop-item.invariant)
