use Rattle.std.proofs.Common.{[], refl}
use Rattle.tt_terminal.proofs.Steps.{passes_left, passes_right, passes_as, passes_word, passes_way, stops_here, stops_left, stops_word, word_kind_is}
use Rattle.tt_terminal.specs.Reading.{Fails, first_place}
use Rattle.tt_sql.specs.grammar.Written.{either_timestamp}
use Rattle.tt_sql.specs.grammar.Combinators.{one, way, ◌▸◌, ◌∣◌}
use Rattle.tt_sql.specs.grammar.TokenKinds.{DOUBLE_COLON}
use Rattle.tt_phrase.proofs.moment.past_type.Goals as goal

pub returns-in_default : goal.returns-in_default
returns-in_default c = passes_right (rw c.in_default.ensures refl) refl (passes_way c.requires)

pub returns-in-Some-either_word : goal.returns-in-Some-either_word
returns-in-Some-either_word c = passes_left (word_kind_is c.in-Some.ensures) refl refl (passes_word c.in-Some.ensures (passes_as c.in-Some-either_word.ensures.1))

pub returns-in-None : goal.returns-in-None
returns-in-None c =
    let fails : Fails [] (one DOUBLE_COLON ▸ either_timestamp ▸ way 0 ∣ way 0) c.args.rest (first_place c.in-Some.rest) = stops_left (word_kind_is c.in-Some.ensures) refl refl (stops_word c.in-Some.ensures (stops_here (rw c.in-None.ensures refl) refl)) in
    rw c.fault.ensures fails
