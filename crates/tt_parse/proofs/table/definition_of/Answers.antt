use Rattle.tt_terminal.proofs.Steps.{passes_both, stops_first, stops_second}
use Rattle.tt_terminal.proofs.Exits.{exits, within}
use Rattle.tt_parse.proofs.table.definition_of.Goals as goal

pub returns-in_err-name : goal.returns-in_err-name
returns-in_err-name c = exits _ _ _ _ _ _ c.from_residual.result c.from_residual.ensures.1 (within (λ at f. stops_first f) _ c.in_err-name.ensures)

pub returns-in_err-kind : goal.returns-in_err-kind
returns-in_err-kind c = exits _ _ _ _ _ _ c.from_residual-in_err-kind.result c.from_residual-in_err-kind.ensures.1 (within (λ at f. stops_second c.in_ok-name.ensures (stops_first f)) _ c.in_err-kind.ensures)

pub returns-in_err-not_null : goal.returns-in_err-not_null
returns-in_err-not_null c = exits _ _ _ _ _ _ c.from_residual-in_err-not_null.result c.from_residual-in_err-not_null.ensures.1 (within (λ at f. stops_second c.in_ok-name.ensures (stops_second c.in_ok-kind.ensures f)) _ c.in_err-not_null.ensures)

pub returns : goal.returns
returns c = passes_both c.in_ok-name.ensures (passes_both c.in_ok-kind.ensures c.in_ok-not_null.ensures)
