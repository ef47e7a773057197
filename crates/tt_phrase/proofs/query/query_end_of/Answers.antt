use Rattle.std.proofs.Common.{refl}
use Rattle.tt_terminal.proofs.Steps.{passes_both, passes_note, stops_first, stops_note, stops_second}
use Rattle.tt_terminal.proofs.Exits.{exits, within}
use Rattle.tt_phrase.proofs.query.query_end_of.Goals as goal

pub returns-in_err-clause-clause-reads : goal.returns-in_err-clause-clause-reads
returns-in_err-clause-clause-reads c = exits _ _ _ _ _ _ c.from_residual.result c.from_residual.ensures.1 (within (λ at f. stops_first f) _ c.in_err-clause.ensures.reads)

pub returns-in_err-filter-clause-reads : goal.returns-in_err-filter-clause-reads
returns-in_err-filter-clause-reads c = exits _ _ _ _ _ _ c.from_residual-in_err-filter.result c.from_residual-in_err-filter.ensures.1 (within (λ at f. stops_second c.in_ok-clause.ensures.reads (stops_note f)) _ c.in_err-filter.ensures.reads)

pub returns-clause-reads : goal.returns-clause-reads
returns-clause-reads c = passes_both c.in_ok-clause.ensures.reads (passes_note (λ done. refl) c.in_ok-filter.ensures.reads)

pub returns-clause-given : goal.returns-clause-given
returns-clause-given c = record { clause = c.in_ok-clause.ensures.given; filter = c.in_ok-filter.ensures.filter }
