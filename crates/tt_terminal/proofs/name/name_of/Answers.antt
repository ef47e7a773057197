use Rattle.std.proofs.Common.{◌≡◌, false, [], refl}
use Rattle.tt_sql.specs.grammar.Grammar.{is_of}
use Rattle.tt_sql.specs.grammar.TokenKinds.{NAME, is_name}
use Rattle.tt_sql.specs.grammar.Combinators.{name}
use Rattle.tt_terminal.specs.Reading.{Fails, first_kind, first_place}
use Rattle.tt_terminal.proofs.Steps.{stops_here}
use Rattle.tt_terminal.proofs.Names.{passes_name}
use Rattle.tt_terminal.proofs.name.name_of.Goals as goal

pub returns-in-Some : goal.returns-in-Some
returns-in-Some c = passes_name (rw c.in-Some.is at (c.in_ok-name.ensures))

pub returns-in-None : goal.returns-in-None
returns-in-None c =
    let none : is_of NAME is_name (first_kind c.args.rest) ≡ false = rw c.in-None.is at (c.in_ok-name.ensures) in
    let fails : Fails [] name c.args.rest (first_place c.args.rest) = stops_here (rw none refl) refl in
    rw c.fault.ensures fails
