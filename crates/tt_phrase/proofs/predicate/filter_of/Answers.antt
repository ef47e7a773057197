use Rattle.std.proofs.Common.{refl}
use Rattle.tt_terminal.proofs.Exits.{exits, within}
use Rattle.tt_terminal.proofs.Steps.{passes_again, passes_as, passes_left, passes_right, passes_way, passes_word, stops_again, stops_first, stops_left, stops_word, word_kind_is}
use Rattle.tt_phrase.proofs.predicate.filter_of.Goals as goal

pub returns-in_default-clause-reads : goal.returns-in_default-clause-reads
returns-in_default-clause-reads c = passes_right (rw c.in_default.ensures refl) refl (passes_way c.requires)

pub returns-in_err-predicate-clause-reads : goal.returns-in_err-predicate-clause-reads
returns-in_err-predicate-clause-reads c = exits _ _ _ _ _ _ c.from_residual.result c.from_residual.ensures.1 (within (λ at f. stops_left (word_kind_is c.in-Some.ensures) refl refl (stops_first (stops_word c.in-Some.ensures (stops_again f)))) _ c.in_err-predicate.ensures.reads)

pub returns-clause-reads : goal.returns-clause-reads
returns-clause-reads c = passes_left (word_kind_is c.in-Some.ensures) refl refl (passes_as (passes_word c.in-Some.ensures (passes_again c.in_ok-predicate.ensures.reads)))
