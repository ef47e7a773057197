use Rattle.std.proofs.Common.{arith}
use Rattle.tt_plain.specs.TypeMismatches.{ungrouped_item}
use Rattle.tt_typer.specs.TableScopes.{scope_in}
use Rattle.tt_typer.proofs.Leftmost.{each_more}
use Rattle.tt_typer.proofs.mismatches.ungrouped_items.Goals as goal

pub loop-item-preserved : goal.loop-item-preserved
loop-item-preserved c =
    rw (c.earlier-found.ensures, c.ungrouped_item.ensures)
    (each_more (ungrouped_item (scope_in c.args.scope.now) c.args.group.now) c.loop-item.found c.args.items.now c.loop-item.item-index c.item-item.result _ (omega arith) c.item-item.is c.loop-item.invariant)
