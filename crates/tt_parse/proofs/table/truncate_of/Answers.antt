use Rattle.std.proofs.Common.{refl}
use Rattle.tt_terminal.proofs.Steps.{stops_first}
use Rattle.tt_terminal.proofs.Exits.{exits, within, gives}
use Rattle.tt_parse.proofs.table.truncate_of.Goals as goal

pub returns-in_err-rest-clause-reads : goal.returns-in_err-rest-clause-reads
returns-in_err-rest-clause-reads c = exits _ _ _ _ _ _ c.from_residual.result c.from_residual.ensures.1 (within (λ at f. stops_first f) _ c.in_err-rest.ensures)

pub returns-clause-reads : goal.returns-clause-reads
returns-clause-reads c = gives _ _ _ _ _ _ _ _ _ _ (λ x. refl) c.in_ok-rest.ensures (gives _ _ _ _ _ _ _ _ _ _ (λ x. refl) c.past-rest.ensures c.table_of.ensures.reads)
