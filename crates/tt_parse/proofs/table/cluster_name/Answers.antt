use Rattle.std.proofs.Common.{refl}
use Rattle.tt_terminal.proofs.Steps.{stops_first}
use Rattle.tt_terminal.proofs.Exits.{exits, within, gives}
use Rattle.tt_parse.proofs.table.cluster_name.Goals as goal

pub returns-in_err-rest : goal.returns-in_err-rest
returns-in_err-rest c = exits _ _ _ _ _ _ c.from_residual.result c.from_residual.ensures.1 (within (λ at f. stops_first f) _ c.in_err-rest.ensures)

pub returns : goal.returns
returns c = gives _ _ _ _ _ _ _ _ _ _ (λ x. refl) c.in_ok-rest.ensures c.bracketed_name.ensures
