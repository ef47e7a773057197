use Rattle.tt_terminal.proofs.Steps.{marks_are, passes_both, stops_first, stops_second}
use Rattle.tt_terminal.proofs.Exits.{exits, within}
use Rattle.tt_phrase.proofs.query.query_of.Goals as goal

pub returns-in_err-place-clause-reads : goal.returns-in_err-place-clause-reads
returns-in_err-place-clause-reads c = exits _ _ _ _ _ _ c.from_residual.result c.from_residual.ensures.1 (within (λ at f. stops_first f) _ c.in_err-place.ensures)

pub returns-in_err-selection-clause-reads : goal.returns-in_err-selection-clause-reads
returns-in_err-selection-clause-reads c = exits _ _ _ _ _ _ c.from_residual-in_err-selection.result c.from_residual-in_err-selection.ensures.1 (within (λ at f. stops_second c.in_ok-place.ensures (stops_first f)) _ c.in_err-selection.ensures.reads)

pub returns-in_err-rest-clause-reads : goal.returns-in_err-rest-clause-reads
returns-in_err-rest-clause-reads c = exits _ _ _ _ _ _ c.from_residual-in_err-rest.result c.from_residual-in_err-rest.ensures.1 (within (λ at f. stops_second c.in_ok-place.ensures (stops_second c.in_ok-selection.ensures.reads (stops_first f))) _ c.in_err-rest.ensures)

pub returns-in_err-table-clause-reads : goal.returns-in_err-table-clause-reads
returns-in_err-table-clause-reads c = exits _ _ _ _ _ _ c.from_residual-in_err-table.result c.from_residual-in_err-table.ensures.1 (within (λ at f. stops_second c.in_ok-place.ensures (stops_second c.in_ok-selection.ensures.reads (stops_second c.in_ok-rest.ensures (stops_first f)))) _ c.in_err-table.ensures.reads)

pub returns-in_err-end-clause-reads : goal.returns-in_err-end-clause-reads
returns-in_err-end-clause-reads c = exits _ _ _ _ _ _ c.from_residual-in_err-end.result c.from_residual-in_err-end.ensures.1 (within (λ at f. stops_second c.in_ok-place.ensures (stops_second c.in_ok-selection.ensures.reads (stops_second c.in_ok-rest.ensures (stops_second c.in_ok-table.ensures.reads f)))) _ c.in_err-end.ensures.reads)

pub returns-clause-reads : goal.returns-clause-reads
returns-clause-reads c = marks_are c.query_with-query.ensures.marks (passes_both c.in_ok-place.ensures (passes_both c.in_ok-selection.ensures.reads (passes_both c.in_ok-rest.ensures (passes_both c.in_ok-table.ensures.reads c.in_ok-end.ensures.reads))))
