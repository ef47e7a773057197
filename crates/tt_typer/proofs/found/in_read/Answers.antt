use Rattle.std.proofs.Common.{◌∙◌, sym, ap}
use Rattle.tt_typer.specs.TableScopes.{scope_in}
use Rattle.tt_typer.specs.Finds.{query_found}
use Rattle.tt_typer.specs.LentSchemas.{lent}
use Rattle.tt_typer.proofs.OneTable.{one_scope, lent_length}
use Rattle.tt_typer.proofs.found.in_read.Goals as goal

pub returns : goal.returns
unfolding scope_in
returns c = rw (c.in_query.ensures, c.schema_of.ensures) (ap (λ scope. query_found scope c.args.query.now) (sym (one_scope c.args.query.now (lent c.args.schemas.now) c.requires.alone (lent_length c.args.schemas.now ∙ c.requires.tables))))
