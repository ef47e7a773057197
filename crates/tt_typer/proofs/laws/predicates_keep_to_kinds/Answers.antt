use Rattle.tt_typer.proofs.PredicateKinds.{predicate_fits}
use Rattle.tt_typer.proofs.laws.predicates_keep_to_kinds.Goals as goal

pub returns : goal.returns
returns c = λ scope row p have known fit. predicate_fits scope row have p known fit
