-- What the names of columns mean over one table.
use Rattle.tt_value.specs.trees.Scope.{Scope}
use Rattle.tt_sql.specs.meaning.Scopes.{target_scope}
use Rattle.tt_typer.specs.declared.scope.TableScope.{TableScope}

unfoldable pub scope_in : TableScope → Scope
scope_in scope = target_scope scope.table.now scope.schema.now
