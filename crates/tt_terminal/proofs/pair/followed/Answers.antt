use Rattle.std.proofs.Common.{[]}
use Rattle.tt_sql.specs.grammar.Combinators.{one}
use Rattle.tt_terminal.specs.KindNumbers.{kind_number}
use Rattle.tt_terminal.specs.Reading.{Fails, first_place}
use Rattle.tt_terminal.proofs.Steps.{passes_last_word, no_last_word}
use Rattle.tt_terminal.proofs.pair.followed.Goals as goal

pub returns-in-Some-clause-reads : goal.returns-in-Some-clause-reads
returns-in-Some-clause-reads g c = passes_last_word c.in-Some.ensures

pub returns-in-None-clause-reads : goal.returns-in-None-clause-reads
returns-in-None-clause-reads g c =
    let fails : Fails [] (one (kind_number c.args.kind)) c.args.rest (first_place c.args.rest) = no_last_word c.in-None.ensures in
    rw c.fault.ensures fails
