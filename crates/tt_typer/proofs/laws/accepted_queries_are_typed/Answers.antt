use Rattle.tt_typer.proofs.StatementKinds.{insert_typed}
use Rattle.tt_typer.proofs.laws.accepted_queries_are_typed.Goals as goal

pub returns : goal.returns
returns c = record {
  query = λ schemas q typed. record { columns = typed.columns; kinds = typed.kinds };
  explain = λ schemas q typed. record { columns = typed.columns; kinds = typed.kinds };
  insert = λ schema sources i q typed is. insert_typed schema sources i q typed is;
}
