use Rattle.tt_phrase.specs.Selects.{depth_kinds}
use Rattle.tt_terminal.proofs.Exits.{within}
use Rattle.tt_terminal.proofs.Steps.{passes_as, passes_both, stops_first, stops_second}
use Rattle.tt_phrase.proofs.SelectReads.{depth_passes, depth_stops, if_exit}
use Rattle.tt_parse.proofs.select.depth_of.Goals as goal

pub returns-in_err-table : goal.returns-in_err-table
returns-in_err-table c = if_exit depth_kinds _ _ _ _ c.from_residual.result c.from_residual.ensures.1 (λ levels. within (λ at f. depth_stops levels c.in-Some.ensures (stops_first f)) _ c.in_err-table.ensures)

pub returns-in_err-rest : goal.returns-in_err-rest
returns-in_err-rest c = if_exit depth_kinds _ _ _ _ c.from_residual-in_err-rest.result c.from_residual-in_err-rest.ensures.1 (λ levels. within (λ at f. depth_stops levels c.in-Some.ensures (stops_second c.in_ok-table.ensures (stops_first f))) _ c.in_err-rest.ensures)

pub returns : goal.returns
returns c = λ levels. depth_passes levels c.in-Some.ensures (passes_both c.in_ok-table.ensures (passes_as c.in_ok-rest.ensures))
