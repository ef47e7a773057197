use Rattle.std.proofs.Common.{◌≡◌, ◌∙◌, sym, ap, List}
use Rattle.std.specs.Prelude.{option_and_then, slice_get}
use Rattle.tt_value.specs.declared.value.Column.{Column}
use Rattle.tt_typer.specs.TableScopes.{scope_in}
use Rattle.tt_typer.proofs.OneTable.{columns_in_one}
use Rattle.tt_typer.proofs.scope.column_in.Goals as goal

pub returns-in-Some : goal.returns-in-Some
returns-in-Some c =
    let same : (scope_in c.args.scope.now).columns ≡ c.args.scope.now.schema.now.columns = unfold scope_in in columns_in_one c.args.scope.now.table.now c.args.scope.now.schema.now in
    c.get.ensures
    ∙ ap (λ (columns : List Column). slice_get columns c.in-Some.place) (sym same)
    ∙ ap (option_and_then (λ k. slice_get (scope_in c.args.scope.now).columns k)) c.in-Some.ensures
