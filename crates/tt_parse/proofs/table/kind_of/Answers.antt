use Rattle.std.proofs.Common.{[], refl}
use Rattle.tt_terminal.proofs.Steps.{passes_left, passes_right, passes_as, passes_last_word, stops_here, word_kind_is}
use Rattle.tt_sql.specs.grammar.Written.{kind}
use Rattle.tt_terminal.specs.Reading.{Fails, first_place}
use Rattle.tt_parse.proofs.table.kind_of.Goals as goal

pub returns-in-Some : goal.returns-in-Some
returns-in-Some c = passes_left refl (rw c.in-Some.ensures.0 refl) refl (passes_as c.in-Some.ensures.1)

pub returns-in-Some-word : goal.returns-in-Some-word
returns-in-Some-word c = passes_right (rw c.in_default.ensures refl) refl (passes_left (word_kind_is c.in-Some-word.ensures) refl refl (passes_as (passes_last_word c.in-Some-word.ensures)))

pub returns-in-Some-any_word : goal.returns-in-Some-any_word
returns-in-Some-any_word c = passes_right (rw c.in_default.ensures refl) refl (passes_right (rw c.in_default-word.ensures refl) refl (passes_as c.in-Some-any_word.ensures.1))

pub returns : goal.returns
returns c =
    let fails : Fails [] kind c.args.rest (first_place c.args.rest) = stops_here (rw (c.in_default.ensures, c.in_default-word.ensures, c.in_default-any_word.ensures) refl) refl in
    rw c.fault.ensures fails
