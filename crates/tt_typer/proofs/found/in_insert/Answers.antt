use Rattle.std.proofs.Common.{◌≡◌, ◌∙◌, ◌∷◌, length, subst}
use Rattle.tt_sql.specs.declared.change.InsertSource.{InsertSource}
use Rattle.tt_plain.specs.Tables.{TakesFromOneTable, source_tables}
use Rattle.tt_typer.specs.TableScopes.{scope_in}
use Rattle.tt_typer.specs.LentSchemas.{lent}
use Rattle.tt_typer.proofs.OneTable.{select_is, lent_length}
use Rattle.tt_typer.proofs.found.in_insert.Goals as goal

pub returns-in-Query : goal.returns-in-Query
unfolding scope_in
returns-in-Query c =
    rw (c.in_select.ensures, c.schema_of-target.ensures, c.schema_of.ensures)
    (select_is (lent c.args.schemas.now) c.args.insert.now c.in-Query.query c.in-Query.is
    (subst TakesFromOneTable c.in-Query.is c.requires.alone)
    (subst (λ (given : InsertSource). length (lent c.args.schemas.now) ≡ length (c.args.insert.now.table ∷ source_tables given)) c.in-Query.is (lent_length c.args.schemas.now ∙ c.requires.tables)))
