use Rattle.std.proofs.Common.{sym}
use Rattle.tt_sql.specs.meaning.Scopes.{target_scope}
use Rattle.tt_plain.specs.UnknownColumns.{unknown_among, unknown_in_expr}
use Rattle.tt_typer.specs.TableScopes.{scope_in}
use Rattle.tt_typer.proofs.Leftmost.{leftmost_append}
use Rattle.tt_typer.proofs.unknown.unknown_in_set.Goals as goal

pub returns : goal.returns
unfolding scope_in
returns c = rw (c.earlier.ensures, c.unknown_among.ensures, c.unknown_in_expr.ensures) (sym (leftmost_append (unknown_among c.args.scope.now.schema.now c.args.set.now.column) (unknown_in_expr (target_scope c.args.scope.now.table.now c.args.scope.now.schema.now) c.args.set.now.value)))
