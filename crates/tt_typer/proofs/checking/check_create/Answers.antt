use Rattle.std.proofs.Common.{[]}
use Rattle.tt_sql.specs.declared.statement.Statement.TheVariants as statement
use Rattle.tt_typer.proofs.Refusals.{free, refused}
use Rattle.tt_typer.proofs.checking.check_create.Goals as goal

pub returns-clause-ok : goal.returns-clause-ok
returns-clause-ok c = free c.first_refusal.result c.in_create.result [] (statement.Create c.args.create.now) c.in_create.ensures c.first_refusal.ensures.ok

pub returns-clause-refused : goal.returns-clause-refused
returns-clause-refused c = refused c.first_refusal.result c.in_create.result [] (statement.Create c.args.create.now) c.in_create.ensures c.first_refusal.ensures.refused
