use Rattle.std.proofs.Common.{refl}
use Rattle.tt_terminal.proofs.Steps.{passes_left, passes_right, passes_as, passes_word, stops_first, stops_left, stops_right, stops_word, word_kind_is}
use Rattle.tt_terminal.proofs.Exits.{exits, within}
use Rattle.tt_parse.proofs.change.insert_source_of.Goals as goal

pub returns-in_err-tuples-clause-reads : goal.returns-in_err-tuples-clause-reads
returns-in_err-tuples-clause-reads c = exits _ _ _ _ _ _ c.from_residual.result c.from_residual.ensures.1 (within (λ at f. stops_left (word_kind_is c.in-Some.ensures) refl refl (stops_word c.in-Some.ensures (stops_first f))) _ c.in_err-tuples.ensures.reads)

pub returns-in-Some-clause-reads : goal.returns-in-Some-clause-reads
returns-in-Some-clause-reads c = passes_left (word_kind_is c.in-Some.ensures) refl refl (passes_word c.in-Some.ensures (passes_as c.in_ok-tuples.ensures.reads))

pub returns-in_err-query-clause-reads : goal.returns-in_err-query-clause-reads
returns-in_err-query-clause-reads c = exits _ _ _ _ _ _ c.from_residual-in_err-query.result c.from_residual-in_err-query.ensures.1 (within (λ at f. stops_right (rw c.in_default.ensures refl) refl (stops_first f)) _ c.in_err-query.ensures.reads)

pub returns-clause-reads : goal.returns-clause-reads
returns-clause-reads c = passes_right (rw c.in_default.ensures refl) refl (passes_as c.in_ok-query.ensures.reads)
