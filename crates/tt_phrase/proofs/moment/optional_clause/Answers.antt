use Rattle.std.proofs.Common.{refl}
use Rattle.tt_terminal.proofs.Steps.{passes_both, passes_left, passes_right, passes_as, passes_last_word, passes_way, stops_first, stops_second, stops_left, word_kind_is}
use Rattle.tt_terminal.proofs.Exits.{exits, within}
use Rattle.tt_phrase.proofs.moment.optional_clause.Goals as goal

pub returns-in_err-moment-clause-reads : goal.returns-in_err-moment-clause-reads
returns-in_err-moment-clause-reads c = exits _ _ _ _ _ _ c.from_residual.result c.from_residual.ensures.1 (within (λ at f. stops_left (word_kind_is c.in-Some.ensures) refl refl (stops_first (stops_second (passes_left (word_kind_is c.in-Some.ensures) refl refl (passes_as (passes_last_word c.in-Some.ensures))) f))) _ c.in_err-moment.ensures.reads)

pub returns-in-Some-clause-reads : goal.returns-in-Some-clause-reads
returns-in-Some-clause-reads c = passes_left (word_kind_is c.in-Some.ensures) refl refl (passes_as (passes_both (passes_left (word_kind_is c.in-Some.ensures) refl refl (passes_as (passes_last_word c.in-Some.ensures))) c.in_ok-moment.ensures.reads))

pub returns-in_err-moment-2-clause-reads : goal.returns-in_err-moment-2-clause-reads
returns-in_err-moment-2-clause-reads c = exits _ _ _ _ _ _ c.from_residual-in_err-moment-2.result c.from_residual-in_err-moment-2.ensures.1 (within (λ at f. stops_left (word_kind_is c.in-Some-word.ensures) refl refl (stops_first (stops_second (passes_right (rw c.in_default.ensures refl) refl (passes_as (passes_last_word c.in-Some-word.ensures))) f))) _ c.in_err-moment-2.ensures.reads)

pub returns-in-Some-word-clause-reads : goal.returns-in-Some-word-clause-reads
returns-in-Some-word-clause-reads c = passes_left (word_kind_is c.in-Some-word.ensures) refl refl (passes_as (passes_both (passes_right (rw c.in_default.ensures refl) refl (passes_as (passes_last_word c.in-Some-word.ensures))) c.in_ok-moment-2.ensures.reads))

pub returns-clause-reads : goal.returns-clause-reads
returns-clause-reads c = passes_right (rw (c.in_default.ensures, c.in_default-word.ensures) refl) refl (passes_way c.requires)
