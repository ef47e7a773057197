use Rattle.std.proofs.Common.{◌∙◌, sym}
use Rattle.tt_typer.specs.TableScopes.{scope_in}
use Rattle.tt_typer.proofs.OneTable.{columns_in_one}
use Rattle.tt_typer.proofs.scope.columns_in.Goals as goal

pub returns : goal.returns
unfolding scope_in
returns c = c.items.ensures ∙ sym (columns_in_one c.args.scope.now.table.now c.args.scope.now.schema.now)
