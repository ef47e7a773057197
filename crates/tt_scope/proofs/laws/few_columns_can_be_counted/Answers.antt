use Rattle.tt_scope.proofs.Few.{few-places}
use Rattle.tt_scope.proofs.laws.few_columns_can_be_counted.Goals as goal

pub returns : goal.returns
returns c = few-places
