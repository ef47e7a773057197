use Rattle.std.proofs.Common.{refl}
use Rattle.tt_terminal.proofs.Steps.{passes_both, passes_left, passes_right, passes_as, passes_word, passes_way, stops_first, stops_second, stops_left, stops_word, word_kind_is}
use Rattle.tt_terminal.proofs.Exits.{exits, within}
use Rattle.tt_sql.specs.marks.Queries.{key_marks}
use Rattle.tt_phrase.proofs.Lists.{filled_marks}
use Rattle.tt_phrase.proofs.query.order_of.Goals as goal

pub returns-in_default : goal.returns-in_default
returns-in_default c = rw c.new.ensures (passes_right (rw c.in_default.ensures refl) refl (passes_way c.requires))

pub returns-in_err-rest : goal.returns-in_err-rest
returns-in_err-rest c = exits _ _ _ _ _ _ c.from_residual.result c.from_residual.ensures.1 (within (λ at f. stops_left (word_kind_is c.in-Some.ensures) refl refl (stops_first (stops_word c.in-Some.ensures (stops_first f)))) _ c.in_err-rest.ensures)

pub returns-in_err-keys : goal.returns-in_err-keys
returns-in_err-keys c = exits _ _ _ _ _ _ c.from_residual-in_err-keys.result c.from_residual-in_err-keys.ensures.1 (within (λ at f. stops_left (word_kind_is c.in-Some.ensures) refl refl (stops_first (stops_word c.in-Some.ensures (stops_second c.in_ok-rest.ensures f)))) _ c.in_err-keys.ensures.reads)

pub returns : goal.returns
returns c = rw (filled_marks key_marks c.in_ok-keys.keys c.in_ok-keys.ensures.filled) (passes_left (word_kind_is c.in-Some.ensures) refl refl (passes_as (passes_word c.in-Some.ensures (passes_both c.in_ok-rest.ensures c.in_ok-keys.ensures.reads))))
