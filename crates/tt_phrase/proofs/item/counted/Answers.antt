use Rattle.std.proofs.Common.{refl}
use Rattle.tt_terminal.proofs.Steps.{passes_both, passes_left, passes_right, passes_as, passes_word, stops_first, stops_second, stops_left, stops_right, stops_word, word_kind_is}
use Rattle.tt_terminal.proofs.Exits.{exits, within}
use Rattle.tt_phrase.proofs.item.counted.Goals as goal

pub returns-in_err-rest : goal.returns-in_err-rest
returns-in_err-rest c = exits _ _ _ _ _ _ c.from_residual.result c.from_residual.ensures.1 (within (λ at f. stops_left (word_kind_is c.in-Some.ensures) refl refl (stops_word c.in-Some.ensures (stops_first f))) _ c.in_err-rest.ensures)

pub returns-in-Some : goal.returns-in-Some
returns-in-Some c = passes_left (word_kind_is c.in-Some.ensures) refl refl (passes_word c.in-Some.ensures (passes_as c.in_ok-rest.ensures))

pub returns-in_err-column : goal.returns-in_err-column
returns-in_err-column c = exits _ _ _ _ _ _ c.from_residual-in_err-column.result c.from_residual-in_err-column.ensures.1 (within (λ at f. stops_right (rw c.in_default.ensures refl) refl (stops_first f)) _ c.in_err-column.ensures.reads)

pub returns-in_err-rest-2 : goal.returns-in_err-rest-2
returns-in_err-rest-2 c = exits _ _ _ _ _ _ c.from_residual-in_err-rest-2.result c.from_residual-in_err-rest-2.ensures.1 (within (λ at f. stops_right (rw c.in_default.ensures refl) refl (stops_second c.in_ok-column.ensures.reads (stops_first f))) _ c.in_err-rest-2.ensures)

pub returns : goal.returns
returns c = passes_right (rw c.in_default.ensures refl) refl (passes_both c.in_ok-column.ensures.reads (passes_as c.in_ok-rest-2.ensures))
