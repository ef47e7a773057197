use Rattle.tt_terminal.proofs.Steps.{passes_both, stops_first}
use Rattle.tt_terminal.proofs.Exits.{exits, within}
use Rattle.tt_phrase.proofs.query.key_of.Goals as goal

pub returns-in_err-by : goal.returns-in_err-by
returns-in_err-by c = exits _ _ _ _ _ _ c.from_residual.result c.from_residual.ensures.1 (within (λ at f. stops_first f) _ c.in_err-by.ensures)

pub returns : goal.returns
returns c = passes_both c.in_ok-by.ensures c.descending_of-descending.ensures
