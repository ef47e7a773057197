use Rattle.std.proofs.Common.{refl}
use Rattle.tt_terminal.proofs.Steps.{passes_both, passes_left, passes_right, passes_as, passes_word, stops_first, stops_second, stops_left, stops_right, stops_word, word_kind_is}
use Rattle.tt_terminal.proofs.Exits.{exits, within}
use Rattle.tt_parse.proofs.table.upkeep_of.Goals as goal

pub returns-in_err-rest : goal.returns-in_err-rest
returns-in_err-rest c = exits _ _ _ _ _ _ c.from_residual.result c.from_residual.ensures.1 (within (λ at f. stops_left (word_kind_is c.in-Some.ensures) refl refl (stops_word c.in-Some.ensures (stops_first f))) _ c.in_err-rest.ensures)

pub returns-in_err-rest-2 : goal.returns-in_err-rest-2
returns-in_err-rest-2 c = exits _ _ _ _ _ _ c.from_residual-in_err-rest-2.result c.from_residual-in_err-rest-2.ensures.1 (within (λ at f. stops_left (word_kind_is c.in-Some.ensures) refl refl (stops_word c.in-Some.ensures (stops_second c.in_ok-rest.ensures (stops_first f)))) _ c.in_err-rest-2.ensures)

pub returns-in-Some : goal.returns-in-Some
returns-in-Some c = passes_left (word_kind_is c.in-Some.ensures) refl refl (passes_word c.in-Some.ensures (passes_both c.in_ok-rest.ensures (passes_as c.in_ok-rest-2.ensures)))

pub returns-in_err-rest-3 : goal.returns-in_err-rest-3
returns-in_err-rest-3 c = exits _ _ _ _ _ _ c.from_residual-in_err-rest-3.result c.from_residual-in_err-rest-3.ensures.1 (within (λ at f. stops_right (rw c.in_default.ensures refl) refl (stops_left (word_kind_is c.in-Some-word.ensures) refl refl (stops_word c.in-Some-word.ensures (stops_first f)))) _ c.in_err-rest-3.ensures)

pub returns-in-Some-word : goal.returns-in-Some-word
returns-in-Some-word c = passes_right (rw c.in_default.ensures refl) refl (passes_left (word_kind_is c.in-Some-word.ensures) refl refl (passes_word c.in-Some-word.ensures (passes_as c.in_ok-rest-3.ensures)))

pub returns-in_err-rest-4 : goal.returns-in_err-rest-4
returns-in_err-rest-4 c = exits _ _ _ _ _ _ c.from_residual-in_err-rest-4.result c.from_residual-in_err-rest-4.ensures.1 (within (λ at f. stops_right (rw c.in_default.ensures refl) refl (stops_right (rw c.in_default-word.ensures refl) refl (stops_first f))) _ c.in_err-rest-4.ensures)

pub returns-in_err-rest-5 : goal.returns-in_err-rest-5
returns-in_err-rest-5 c = exits _ _ _ _ _ _ c.from_residual-in_err-rest-5.result c.from_residual-in_err-rest-5.ensures.1 (within (λ at f. stops_right (rw c.in_default.ensures refl) refl (stops_right (rw c.in_default-word.ensures refl) refl (stops_second c.in_ok-rest-4.ensures (stops_first f)))) _ c.in_err-rest-5.ensures)

pub returns : goal.returns
returns c = passes_right (rw c.in_default.ensures refl) refl (passes_right (rw c.in_default-word.ensures refl) refl (passes_both c.in_ok-rest-4.ensures (passes_as c.in_ok-rest-5.ensures)))
