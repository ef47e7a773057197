use Rattle.tt_terminal.proofs.Steps.{passes_both, stops_first, stops_second}
use Rattle.tt_terminal.proofs.Exits.{exits, within}
use Rattle.tt_parse.proofs.wait.wait_of.Goals as goal

pub returns-in_err-rest : goal.returns-in_err-rest
returns-in_err-rest c = exits _ _ _ _ _ _ c.from_residual.result c.from_residual.ensures.1 (within (λ at f. stops_first f) _ c.in_err-rest.ensures)

pub returns-in_err-rest-2 : goal.returns-in_err-rest-2
returns-in_err-rest-2 c = exits _ _ _ _ _ _ c.from_residual-in_err-rest-2.result c.from_residual-in_err-rest-2.ensures.1 (within (λ at f. stops_second c.in_ok-rest.ensures (stops_first f)) _ c.in_err-rest-2.ensures)

pub returns-in_err-rest-3 : goal.returns-in_err-rest-3
returns-in_err-rest-3 c = exits _ _ _ _ _ _ c.from_residual-in_err-rest-3.result c.from_residual-in_err-rest-3.ensures.1 (within (λ at f. stops_second c.in_ok-rest.ensures (stops_second c.in_ok-rest-2.ensures (stops_first f))) _ c.in_err-rest-3.ensures)

pub returns-in_err-amount : goal.returns-in_err-amount
returns-in_err-amount c = exits _ _ _ _ _ _ c.from_residual-in_err-amount.result c.from_residual-in_err-amount.ensures.1 (within (λ at f. stops_second c.in_ok-rest.ensures (stops_second c.in_ok-rest-2.ensures (stops_second c.in_ok-rest-3.ensures (stops_first f)))) _ c.in_err-amount.ensures)

pub returns-in_err-unit : goal.returns-in_err-unit
returns-in_err-unit c = exits _ _ _ _ _ _ c.from_residual-in_err-unit.result c.from_residual-in_err-unit.ensures.1 (within (λ at f. stops_second c.in_ok-rest.ensures (stops_second c.in_ok-rest-2.ensures (stops_second c.in_ok-rest-3.ensures (stops_second c.in_ok-amount.ensures (stops_first f))))) _ c.in_err-unit.ensures)

pub returns-in_err-rest-4 : goal.returns-in_err-rest-4
returns-in_err-rest-4 c = exits _ _ _ _ _ _ c.from_residual-in_err-rest-4.result c.from_residual-in_err-rest-4.ensures.1 (within (λ at f. stops_second c.in_ok-rest.ensures (stops_second c.in_ok-rest-2.ensures (stops_second c.in_ok-rest-3.ensures (stops_second c.in_ok-amount.ensures (stops_second c.in_ok-unit.ensures f))))) _ c.in_err-rest-4.ensures)

pub returns : goal.returns
returns c = passes_both c.in_ok-rest.ensures (passes_both c.in_ok-rest-2.ensures (passes_both c.in_ok-rest-3.ensures (passes_both c.in_ok-amount.ensures (passes_both c.in_ok-unit.ensures c.in_ok-rest-4.ensures))))
