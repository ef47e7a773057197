use Rattle.tt_terminal.proofs.Steps.{passes_both, stops_first, stops_second}
use Rattle.tt_terminal.proofs.Exits.{exits, within}
use Rattle.tt_phrase.proofs.query.tail_of.Goals as goal

pub returns-in_err-group : goal.returns-in_err-group
returns-in_err-group c = exits _ _ _ _ _ _ c.from_residual.result c.from_residual.ensures.1 (within (λ at f. stops_first f) _ c.in_err-group.ensures)

pub returns-in_err-order : goal.returns-in_err-order
returns-in_err-order c = exits _ _ _ _ _ _ c.from_residual-in_err-order.result c.from_residual-in_err-order.ensures.1 (within (λ at f. stops_second c.in_ok-group.ensures (stops_first f)) _ c.in_err-order.ensures)

pub returns-in_err-limit : goal.returns-in_err-limit
returns-in_err-limit c = exits _ _ _ _ _ _ c.from_residual-in_err-limit.result c.from_residual-in_err-limit.ensures.1 (within (λ at f. stops_second c.in_ok-group.ensures (stops_second c.in_ok-order.ensures f)) _ c.in_err-limit.ensures)

pub returns : goal.returns
returns c = passes_both c.in_ok-group.ensures (passes_both c.in_ok-order.ensures c.in_ok-limit.ensures)
