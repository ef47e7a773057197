use Rattle.std.proofs.Common.{refl}
use Rattle.tt_terminal.proofs.Steps.{passes_at, passes_left, passes_right, passes_as, stops_first, stops_right, word_kind_is}
use Rattle.tt_terminal.proofs.Exits.{exits, within}
use Rattle.tt_phrase.proofs.item.selection_of.Goals as goal

pub returns-in-Some-clause-reads : goal.returns-in-Some-clause-reads
returns-in-Some-clause-reads c = passes_left (word_kind_is c.in-Some.ensures.word) refl refl (passes_as (passes_at c.in-Some.ensures))

pub returns-in_err-items-clause-reads : goal.returns-in_err-items-clause-reads
returns-in_err-items-clause-reads c = exits _ _ _ _ _ _ c.from_residual.result c.from_residual.ensures.1 (within (λ at f. stops_right (rw c.in_default.ensures refl) refl (stops_first f)) _ c.in_err-items.ensures.reads)

pub returns-clause-reads : goal.returns-clause-reads
returns-clause-reads c = passes_right (rw c.in_default.ensures refl) refl (passes_as c.in_ok-items.ensures.reads)
