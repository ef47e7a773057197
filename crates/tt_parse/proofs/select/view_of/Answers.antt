use Rattle.std.proofs.Common.{◌∷◌, []}
use Rattle.tt_sql.specs.grammar.Grammar.{Way}
use Rattle.tt_terminal.specs.declared.rest.Rest.{Rest}
use Rattle.tt_phrase.specs.Selects.{view_kinds}
use Rattle.tt_terminal.proofs.Exits.{within}
use Rattle.tt_phrase.proofs.SelectReads.{view_passes, view_stops, if_exit}
use Rattle.tt_parse.proofs.select.view_of.Goals as goal

pub returns-in_err-rest : goal.returns-in_err-rest
returns-in_err-rest c = if_exit view_kinds (λ (s : Rest). Way 17 ∷ []) (λ s. s) _ _ c.from_residual.result c.from_residual.ensures.1 (λ levels. within (λ at f. view_stops levels c.in-Some.ensures f) _ c.in_err-rest.ensures)

pub returns : goal.returns
returns c = λ levels. view_passes levels c.in-Some.ensures c.in_ok-rest.ensures
