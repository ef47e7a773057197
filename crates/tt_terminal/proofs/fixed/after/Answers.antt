use Rattle.std.proofs.Common.{[]}
use Rattle.tt_sql.specs.grammar.Combinators.{one}
use Rattle.tt_terminal.specs.KindNumbers.{kind_number}
use Rattle.tt_terminal.specs.Reading.{Fails, first_place}
use Rattle.tt_terminal.proofs.Steps.{passes_last_word, no_last_word}
use Rattle.tt_terminal.proofs.fixed.after.Goals as goal

pub returns-in-Some : goal.returns-in-Some
returns-in-Some c = passes_last_word c.in-Some.ensures

pub returns-in-None : goal.returns-in-None
returns-in-None c =
    let fails : Fails [] (one (kind_number c.args.kind)) c.args.rest (first_place c.args.rest) = no_last_word c.in-None.ensures in
    rw c.fault.ensures fails
