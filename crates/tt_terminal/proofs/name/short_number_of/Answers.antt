use Rattle.std.proofs.Common.{[], refl}
use Rattle.tt_sql.specs.grammar.Combinators.{short_number}
use Rattle.tt_terminal.specs.Reading.{Fails, first_place}
use Rattle.tt_terminal.proofs.Steps.{stops_here}
use Rattle.tt_terminal.proofs.Numbers.{passes_short}
use Rattle.tt_terminal.proofs.name.short_number_of.Goals as goal

pub returns-in_default : goal.returns-in_default
returns-in_default c =
    let fails : Fails [] short_number c.args.rest (first_place c.args.rest) = stops_here (rw c.in_default.ensures refl) refl in
    rw c.fault.ensures fails

pub returns : goal.returns
returns c = passes_short c.in-Some.ensures c.in-Some-optional_number.ensures
