-- What names mean over the one table of a statement.
use Rattle.tt_value.specs.trees.Scope.{Scope}
use Rattle.tt_sql.specs.meaning.Scopes.{target_scope}
use Rattle.tt_model_meaning.specs.declared.scope.TableScope.{TableScope}

unfoldable pub scope_in : TableScope → Scope
scope_in scope = target_scope scope.table.now scope.schema.now
