use Rattle.tt_typer.proofs.ExpressionKinds.{expression_fits}
use Rattle.tt_typer.proofs.laws.expressions_keep_to_kinds.Goals as goal

pub returns : goal.returns
returns c = record {
  strict = λ scope row e have known fit. (expression_fits scope row have e known fit).is;
  kind = λ scope row e have known fit. (expression_fits scope row have e known fit).of_kind;
}
