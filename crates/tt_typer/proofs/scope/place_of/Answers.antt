use Rattle.std.proofs.Common.{◌∙◌, sym, ap, if◌then◌else◌, None}
use Rattle.tt_value.specs.trees.Scope.{column_place}
use Rattle.tt_typer.specs.TableScopes.{scope_in}
use Rattle.tt_typer.proofs.OneTable.{place_in_one}
use Rattle.tt_typer.proofs.scope.place_of.Goals as goal

pub returns-then-names_table : goal.returns-then-names_table
unfolding scope_in
returns-then-names_table c = c.column_place.ensures ∙ sym (place_in_one c.args.scope.now.table.now c.args.scope.now.schema.now c.args.column.now ∙ ap (λ b. if b then column_place c.args.scope.now.schema.now c.args.column.now.name.text else None) (sym c.names_table.ensures ∙ c.if-names_table.true))

pub returns-else-names_table : goal.returns-else-names_table
unfolding scope_in
returns-else-names_table c = sym (place_in_one c.args.scope.now.table.now c.args.scope.now.schema.now c.args.column.now ∙ ap (λ b. if b then column_place c.args.scope.now.schema.now c.args.column.now.name.text else None) (sym c.names_table.ensures ∙ c.if-names_table.false))
