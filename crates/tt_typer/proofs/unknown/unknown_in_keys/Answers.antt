use Rattle.std.proofs.Common.{arith}
use Rattle.tt_plain.specs.UnknownColumns.{unknown_in_key}
use Rattle.tt_typer.specs.TableScopes.{scope_in}
use Rattle.tt_typer.proofs.Leftmost.{each_more}
use Rattle.tt_typer.proofs.unknown.unknown_in_keys.Goals as goal

pub loop-key-preserved : goal.loop-key-preserved
loop-key-preserved c =
    rw (c.earlier-found.ensures, c.unknown_in_key.ensures)
    (each_more (unknown_in_key (scope_in c.args.scope.now) c.args.selection.now) c.loop-key.found c.args.keys.now c.loop-key.key-index c.key-item.result _ (omega arith) c.key-item.is c.loop-key.invariant)
