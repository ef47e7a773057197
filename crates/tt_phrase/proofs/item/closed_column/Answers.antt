use Rattle.tt_terminal.proofs.Steps.{passes_both, passes_as, stops_first, stops_second}
use Rattle.tt_terminal.proofs.Exits.{exits, within}
use Rattle.tt_phrase.proofs.item.closed_column.Goals as goal

pub returns-in_err-column : goal.returns-in_err-column
returns-in_err-column c = λ n. exits _ _ _ _ _ _ c.from_residual.result c.from_residual.ensures.1 (within (λ at f. stops_first f) _ c.in_err-column.ensures.reads)

pub returns-in_err-rest : goal.returns-in_err-rest
returns-in_err-rest c = λ n. exits _ _ _ _ _ _ c.from_residual-in_err-rest.result c.from_residual-in_err-rest.ensures.1 (within (λ at f. stops_second c.in_ok-column.ensures.reads (stops_first f)) _ c.in_err-rest.ensures)

pub returns : goal.returns
returns c = λ n. passes_both c.in_ok-column.ensures.reads (passes_as c.in_ok-rest.ensures)
