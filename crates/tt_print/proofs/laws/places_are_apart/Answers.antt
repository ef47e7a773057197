-- Places are told apart from what a statement says.
use Rattle.tt_print.proofs.places.Statements.{statement_kept, alike_statements}
use Rattle.tt_print.proofs.laws.places_are_apart.Goals as goal

pub returns : goal.returns
returns c = record { marks = λ levels s is. (statement_kept levels s is).noted; alike = alike_statements }
