use Rattle.std.proofs.Common.{refl}
use Rattle.tt_terminal.proofs.Steps.{stops_first, stops_second}
use Rattle.tt_terminal.proofs.Exits.{exits, within, gives}
use Rattle.tt_parse.proofs.table.undrop_of.Goals as goal

pub returns-in_err-rest-clause-reads : goal.returns-in_err-rest-clause-reads
returns-in_err-rest-clause-reads c = exits _ _ _ _ _ _ c.from_residual.result c.from_residual.ensures.1 (within (λ at f. stops_first f) _ c.in_err-rest.ensures)

pub returns-in_err-rest-2-clause-reads : goal.returns-in_err-rest-2-clause-reads
returns-in_err-rest-2-clause-reads c = exits _ _ _ _ _ _ c.from_residual-in_err-rest-2.result c.from_residual-in_err-rest-2.ensures.1 (within (λ at f. stops_second c.in_ok-rest.ensures (stops_first f)) _ c.in_err-rest-2.ensures)

pub returns-clause-reads : goal.returns-clause-reads
returns-clause-reads c = gives _ _ _ _ _ _ _ _ _ _ (λ x. refl) c.in_ok-rest.ensures (gives _ _ _ _ _ _ _ _ _ _ (λ x. refl) c.in_ok-rest-2.ensures c.table_of.ensures.reads)
