use Rattle.tt_sql.specs.declared.statement.Statement.TheVariants as statement
use Rattle.tt_typer.specs.LentSchemas.{lent}
use Rattle.tt_typer.proofs.Refusals.{free, refused}
use Rattle.tt_typer.proofs.checking.check_query.Goals as goal

pub returns-clause-ok : goal.returns-clause-ok
returns-clause-ok c = free c.first_refusal.result c.in_read.result (lent c.args.schemas.now) (statement.Query c.args.query.now) c.in_read.ensures c.first_refusal.ensures.ok

pub returns-clause-refused : goal.returns-clause-refused
returns-clause-refused c = refused c.first_refusal.result c.in_read.result (lent c.args.schemas.now) (statement.Query c.args.query.now) c.in_read.ensures c.first_refusal.ensures.refused
