use Rattle.tt_terminal.proofs.Steps.{passes_both, stops_first, stops_second}
use Rattle.tt_terminal.proofs.Exits.{exits, within, passes_then}
use Rattle.tt_parse.proofs.change.tuple_of.Goals as goal

pub returns-in_err-place-clause-reads : goal.returns-in_err-place-clause-reads
returns-in_err-place-clause-reads c = exits _ _ _ _ _ _ c.from_residual.result c.from_residual.ensures.1 (within (λ at f. stops_first f) _ c.in_err-place.ensures)

pub returns-in_err-list-clause-reads : goal.returns-in_err-list-clause-reads
returns-in_err-list-clause-reads c = exits _ _ _ _ _ _ c.from_residual-in_err-list.result c.from_residual-in_err-list.ensures.1 (within (λ at f. stops_second c.in_ok-place.ensures (stops_first f)) _ c.in_err-list.ensures.reads)

pub returns-in_err-values-clause-reads : goal.returns-in_err-values-clause-reads
returns-in_err-values-clause-reads c = exits _ _ _ _ _ _ c.from_residual-in_err-values.result c.from_residual-in_err-values.ensures.1 (within (λ at f. stops_second c.in_ok-place.ensures (stops_second c.in_ok-list.ensures.reads f)) _ c.in_err-values.ensures.reads)

pub returns-clause-reads : goal.returns-clause-reads
returns-clause-reads c = rw c.in_ok-values.ensures.kept (passes_both c.in_ok-place.ensures (passes_then c.in_ok-list.ensures.reads c.in_ok-values.ensures.reads))

pub returns-clause-given : goal.returns-clause-given
returns-clause-given c = rw c.in_ok-values.ensures.kept c.in_ok-list.ensures.given
