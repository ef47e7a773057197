use Rattle.std.proofs.Common.{[], refl}
use Rattle.tt_sql.specs.grammar.Combinators.{number}
use Rattle.tt_terminal.specs.Reading.{Fails, first_place}
use Rattle.tt_terminal.proofs.Steps.{stops_here}
use Rattle.tt_terminal.proofs.Numbers.{passes_number}
use Rattle.tt_terminal.proofs.name.number_of.Goals as goal

pub returns-in-Some : goal.returns-in-Some
returns-in-Some c = passes_number c.in-Some.ensures

pub returns-in-None : goal.returns-in-None
returns-in-None c =
    let fails : Fails [] number c.args.rest (first_place c.args.rest) = stops_here (rw c.in-None.ensures refl) refl in
    rw c.fault.ensures fails
