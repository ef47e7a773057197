use Rattle.tt_typer.proofs.Accepted.{well_typed}
use Rattle.tt_typer.proofs.laws.accepted_is_well_typed.Goals as goal

pub returns : goal.returns
returns c = λ schemas s is. well_typed schemas s is
