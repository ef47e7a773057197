use Rattle.std.proofs.Common.{refl}
use Rattle.tt_terminal.proofs.Steps.{passes_both, passes_left, passes_right, passes_as, passes_word, stops_first, stops_second, stops_left, stops_right, stops_word, word_kind_is}
use Rattle.tt_terminal.proofs.Exits.{exits, within, turns_right}
use Rattle.tt_parse.proofs.table.change_of.Goals as goal

pub returns-in_err-rest : goal.returns-in_err-rest
returns-in_err-rest c = exits _ _ _ _ _ _ c.from_residual.result c.from_residual.ensures.1 (within (λ at f. stops_left (word_kind_is c.in-Some.ensures) refl refl (stops_word c.in-Some.ensures (stops_first f))) _ c.in_err-rest.ensures)

pub returns-in_err-table : goal.returns-in_err-table
returns-in_err-table c = exits _ _ _ _ _ _ c.from_residual-in_err-table.result c.from_residual-in_err-table.ensures.1 (within (λ at f. stops_left (word_kind_is c.in-Some.ensures) refl refl (stops_word c.in-Some.ensures (stops_second c.in_ok-rest.ensures (stops_first f)))) _ c.in_err-table.ensures.reads)

pub returns-in-Some : goal.returns-in-Some
returns-in-Some c = passes_left (word_kind_is c.in-Some.ensures) refl refl (passes_word c.in-Some.ensures (passes_both c.in_ok-rest.ensures (passes_as c.in_ok-table.ensures.reads)))

pub returns-in_err-rest-2 : goal.returns-in_err-rest-2
returns-in_err-rest-2 c = exits _ _ _ _ _ _ c.from_residual-in_err-rest-2.result c.from_residual-in_err-rest-2.ensures.1 (within (λ at f. stops_right (rw c.in_default.ensures refl) refl (stops_left (word_kind_is c.in-Some-word.ensures) refl refl (stops_word c.in-Some-word.ensures (stops_first f)))) _ c.in_err-rest-2.ensures)

pub returns-in_err-table-2 : goal.returns-in_err-table-2
returns-in_err-table-2 c = exits _ _ _ _ _ _ c.from_residual-in_err-table-2.result c.from_residual-in_err-table-2.ensures.1 (within (λ at f. stops_right (rw c.in_default.ensures refl) refl (stops_left (word_kind_is c.in-Some-word.ensures) refl refl (stops_word c.in-Some-word.ensures (stops_second c.in_ok-rest-2.ensures (stops_first f))))) _ c.in_err-table-2.ensures.reads)

pub returns-in-Some-word : goal.returns-in-Some-word
returns-in-Some-word c = passes_right (rw c.in_default.ensures refl) refl (passes_left (word_kind_is c.in-Some-word.ensures) refl refl (passes_word c.in-Some-word.ensures (passes_both c.in_ok-rest-2.ensures (passes_as c.in_ok-table-2.ensures.reads))))

pub returns-in_err-rest-3 : goal.returns-in_err-rest-3
returns-in_err-rest-3 c = exits _ _ _ _ _ _ c.from_residual-in_err-rest-3.result c.from_residual-in_err-rest-3.ensures.1 (within (λ at f. stops_right (rw c.in_default.ensures refl) refl (stops_right (rw c.in_default-word.ensures refl) refl (stops_left (word_kind_is c.in-Some-word-2.ensures) refl refl (stops_word c.in-Some-word-2.ensures (stops_first (stops_first f)))))) _ c.in_err-rest-3.ensures)

pub returns-in_err-days : goal.returns-in_err-days
returns-in_err-days c = exits _ _ _ _ _ _ c.from_residual-in_err-days.result c.from_residual-in_err-days.ensures.1 (within (λ at f. stops_right (rw c.in_default.ensures refl) refl (stops_right (rw c.in_default-word.ensures refl) refl (stops_left (word_kind_is c.in-Some-word-2.ensures) refl refl (stops_word c.in-Some-word-2.ensures (stops_first (stops_second c.in_ok-rest-3.ensures f)))))) _ c.in_err-days.ensures)

pub returns-in-Some-word-2 : goal.returns-in-Some-word-2
returns-in-Some-word-2 c = passes_right (rw c.in_default.ensures refl) refl (passes_right (rw c.in_default-word.ensures refl) refl (passes_left (word_kind_is c.in-Some-word-2.ensures) refl refl (passes_word c.in-Some-word-2.ensures (passes_as (passes_both c.in_ok-rest-3.ensures c.in_ok-days.ensures)))))

pub returns-in_err-name : goal.returns-in_err-name
returns-in_err-name c = exits _ _ _ _ _ _ c.from_residual-in_err-name.result c.from_residual-in_err-name.ensures.1 (within (λ at f. stops_right (rw c.in_default.ensures refl) refl (stops_right (rw c.in_default-word.ensures refl) refl (stops_right (rw c.in_default-word-2.ensures refl) refl (stops_left (word_kind_is c.in-Some-word-3.ensures) refl refl (stops_first (stops_word c.in-Some-word-3.ensures f)))))) _ c.in_err-name.ensures)

pub returns-in-Some-word-3 : goal.returns-in-Some-word-3
returns-in-Some-word-3 c = passes_right (rw c.in_default.ensures refl) refl (passes_right (rw c.in_default-word.ensures refl) refl (passes_right (rw c.in_default-word-2.ensures refl) refl (passes_left (word_kind_is c.in-Some-word-3.ensures) refl refl (passes_as (passes_word c.in-Some-word-3.ensures c.in_ok-name.ensures)))))

pub returns : goal.returns
returns c = turns_right _ _ _ _ _ _ _ (rw c.in_default.ensures refl) refl (turns_right _ _ _ _ _ _ _ (rw c.in_default-word.ensures refl) refl (turns_right _ _ _ _ _ _ _ (rw c.in_default-word-2.ensures refl) refl (turns_right _ _ _ _ _ _ _ (rw c.in_default-word-3.ensures refl) refl c.upkeep_of.ensures)))
