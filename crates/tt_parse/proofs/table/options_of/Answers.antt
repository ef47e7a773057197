use Rattle.std.proofs.Common.{refl}
use Rattle.tt_terminal.proofs.Steps.{passes_both, passes_left, passes_right, passes_word, passes_way, stops_first, stops_second, stops_left, stops_word, word_kind_is}
use Rattle.tt_terminal.proofs.Exits.{exits, within, turns_left, turns_right, goes_on}
use Rattle.tt_parse.proofs.table.options_of.Goals as goal

pub returns-in_err-name : goal.returns-in_err-name
returns-in_err-name c = exits _ _ _ _ _ _ c.from_residual.result c.from_residual.ensures.1 (within (λ at f. stops_left (word_kind_is c.in-Some.ensures) refl refl (stops_first (stops_word c.in-Some.ensures f))) _ c.in_err-name.ensures)

pub returns-in_err-retention : goal.returns-in_err-retention
returns-in_err-retention c = exits _ _ _ _ _ _ c.from_residual-in_err-retention.result c.from_residual-in_err-retention.ensures.1 (within (λ at f. stops_left (word_kind_is c.in-Some.ensures) refl refl (stops_second (passes_word c.in-Some.ensures c.in_ok-name.ensures) (stops_second (passes_way c.in_ok-name.ensures.known) f))) _ c.in_err-retention.ensures)

pub returns-in-Some : goal.returns-in-Some
returns-in-Some c = passes_left (word_kind_is c.in-Some.ensures) refl refl (passes_both (passes_word c.in-Some.ensures c.in_ok-name.ensures) (passes_both (passes_way c.in_ok-name.ensures.known) c.in_ok-retention.ensures))

pub returns-in-Some-word : goal.returns-in-Some-word
returns-in-Some-word c = turns_right _ _ _ _ _ _ _ (rw c.in_default.ensures refl) refl (turns_left _ _ _ _ _ _ _ _ (word_kind_is c.in-Some-word.ensures) refl refl (goes_on _ _ _ _ _ _ _ _ c.in-Some-word.ensures c.retained_options.ensures))

pub returns : goal.returns
returns c = passes_right (rw c.in_default.ensures refl) refl (passes_right (rw c.in_default-word.ensures refl) refl (passes_both (passes_way c.requires) (passes_way c.requires)))
