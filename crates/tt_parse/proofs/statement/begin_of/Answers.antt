use Rattle.std.proofs.Common.{refl}
use Rattle.tt_terminal.proofs.Steps.{passes_left, passes_word, stops_first, stops_right, word_kind_is}
use Rattle.tt_terminal.proofs.Exits.{exits, within, gives, turns_right}
use Rattle.tt_parse.proofs.statement.begin_of.Goals as goal

pub returns-in-Some : goal.returns-in-Some
returns-in-Some c = passes_left (word_kind_is c.in-Some.ensures) refl refl (passes_word c.in-Some.ensures c.past_either.ensures)

pub returns-in_err-rest : goal.returns-in_err-rest
returns-in_err-rest c = exits _ _ _ _ _ _ c.from_residual.result c.from_residual.ensures.1 (within (λ at f. stops_right (rw c.in_default.ensures refl) refl (stops_first f)) _ c.in_err-rest.ensures)

pub returns : goal.returns
returns c = turns_right _ _ _ _ _ _ _ (rw c.in_default.ensures refl) refl (gives _ _ _ _ _ _ _ _ _ _ (λ x. refl) c.in_ok-rest.ensures c.after-2.ensures)
