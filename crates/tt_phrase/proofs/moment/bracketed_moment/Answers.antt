use Rattle.tt_terminal.proofs.Steps.{passes_both, stops_first, stops_second}
use Rattle.tt_terminal.proofs.Exits.{exits, within, passes_then}
use Rattle.tt_phrase.proofs.moment.bracketed_moment.Goals as goal

pub returns-in_err-rest-clause-reads : goal.returns-in_err-rest-clause-reads
returns-in_err-rest-clause-reads c = exits _ _ _ _ _ _ c.from_residual.result c.from_residual.ensures.1 (within (λ at f. stops_first f) _ c.in_err-rest.ensures)

pub returns-in_err-moment-clause-reads : goal.returns-in_err-moment-clause-reads
returns-in_err-moment-clause-reads c = exits _ _ _ _ _ _ c.from_residual-in_err-moment.result c.from_residual-in_err-moment.ensures.1 (within (λ at f. stops_second c.in_ok-rest.ensures (stops_first f)) _ c.in_err-moment.ensures.reads)

pub returns-in_err-rest-2-clause-reads : goal.returns-in_err-rest-2-clause-reads
returns-in_err-rest-2-clause-reads c = exits _ _ _ _ _ _ c.from_residual-in_err-rest-2.result c.from_residual-in_err-rest-2.ensures.1 (within (λ at f. stops_second c.in_ok-rest.ensures (stops_second c.in_ok-moment.ensures.reads f)) _ c.in_err-rest-2.ensures)

pub returns-clause-reads : goal.returns-clause-reads
returns-clause-reads c = passes_both c.in_ok-rest.ensures (passes_then c.in_ok-moment.ensures.reads c.in_ok-rest-2.ensures)
