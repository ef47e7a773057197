use Rattle.tt_typer.proofs.CreatedNames.{found_by_name}
use Rattle.tt_typer.proofs.laws.created_columns_are_found.Goals as goal

pub returns : goal.returns
returns c = λ schemas c schema typed same. found_by_name schema c.columns typed.counts same
