use Rattle.tt_terminal.proofs.Steps.{passes_both, stops_first, stops_second}
use Rattle.tt_terminal.proofs.Exits.{exits, within}
use Rattle.tt_parse.proofs.table.bracketed_name.Goals as goal

pub returns-in_err-rest : goal.returns-in_err-rest
returns-in_err-rest c = exits _ _ _ _ _ _ c.from_residual.result c.from_residual.ensures.1 (within (λ at f. stops_first f) _ c.in_err-rest.ensures)

pub returns-in_err-name : goal.returns-in_err-name
returns-in_err-name c = exits _ _ _ _ _ _ c.from_residual-in_err-name.result c.from_residual-in_err-name.ensures.1 (within (λ at f. stops_second c.in_ok-rest.ensures (stops_first f)) _ c.in_err-name.ensures)

pub returns-in_err-rest-2 : goal.returns-in_err-rest-2
returns-in_err-rest-2 c = exits _ _ _ _ _ _ c.from_residual-in_err-rest-2.result c.from_residual-in_err-rest-2.ensures.1 (within (λ at f. stops_second c.in_ok-rest.ensures (stops_second c.in_ok-name.ensures f)) _ c.in_err-rest-2.ensures)

pub returns : goal.returns
returns c = passes_both c.in_ok-rest.ensures (passes_both c.in_ok-name.ensures c.in_ok-rest-2.ensures)
