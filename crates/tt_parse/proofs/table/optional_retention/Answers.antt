use Rattle.std.proofs.Common.{refl}
use Rattle.tt_terminal.proofs.Steps.{passes_left, passes_right, passes_as, passes_word, passes_way, stops_first, stops_left, stops_word, word_kind_is}
use Rattle.tt_terminal.proofs.Exits.{exits, within}
use Rattle.tt_parse.proofs.table.optional_retention.Goals as goal

pub returns-in_default : goal.returns-in_default
returns-in_default c = passes_right (rw c.in_default.ensures refl) refl (passes_way c.requires)

pub returns-in_err-days : goal.returns-in_err-days
returns-in_err-days c = exits _ _ _ _ _ _ c.from_residual.result c.from_residual.ensures.1 (within (λ at f. stops_left (word_kind_is c.in-Some.ensures) refl refl (stops_first (stops_word c.in-Some.ensures f))) _ c.in_err-days.ensures)

pub returns : goal.returns
returns c = passes_left (word_kind_is c.in-Some.ensures) refl refl (passes_as (passes_word c.in-Some.ensures c.in_ok-days.ensures))
