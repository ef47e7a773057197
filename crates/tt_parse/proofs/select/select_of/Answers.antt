use Rattle.std.proofs.Common.{◌≡◌, false}
use Rattle.tt_sql.specs.grammar.Lexemes.{begins_with}
use Rattle.tt_terminal.specs.Reading.{seen}
use Rattle.tt_phrase.specs.Selects.{depth_kinds, view_kinds}
use Rattle.tt_terminal.proofs.Steps.{passes_as, stops_first}
use Rattle.tt_terminal.proofs.Exits.{exits, within}
use Rattle.tt_phrase.proofs.SelectReads.{select_passes, select_stops}
use Rattle.tt_parse.proofs.select.select_of.Goals as goal

pub returns-in_err-rest-clause-reads : goal.returns-in_err-rest-clause-reads
returns-in_err-rest-clause-reads c = exits _ _ _ _ _ _ c.from_residual.result c.from_residual.ensures.1 (c.in_err-rest.ensures c.args.levels)

pub returns-in-Some-clause-reads : goal.returns-in-Some-clause-reads
returns-in-Some-clause-reads c = let reads = rw c.in-Some.is at (c.in_ok-rest.ensures) in reads c.args.levels

pub returns-in_err-table-clause-reads : goal.returns-in_err-table-clause-reads
returns-in_err-table-clause-reads c = exits _ _ _ _ _ _ c.from_residual-in_err-table.result c.from_residual-in_err-table.ensures.1 (c.in_err-table.ensures c.args.levels)

pub returns-in-Some-2-clause-reads : goal.returns-in-Some-2-clause-reads
returns-in-Some-2-clause-reads c = let reads = rw c.in-Some-2.is at (c.in_ok-table.ensures) in reads c.args.levels

pub returns-in_err-query-clause-reads : goal.returns-in_err-query-clause-reads
returns-in_err-query-clause-reads c =
    let no_view : begins_with view_kinds (seen c.args.rest) ≡ false = rw c.in_default.is at (c.in_ok-rest.ensures) in
    let no_depth : begins_with depth_kinds (seen c.args.rest) ≡ false = rw c.in_default-2.is at (c.in_ok-table.ensures) in
    exits _ _ _ _ _ _ c.from_residual-in_err-query.result c.from_residual-in_err-query.ensures.1 (within (λ at f. select_stops c.args.levels no_view no_depth (stops_first f)) _ c.in_err-query.ensures.reads)

pub returns-clause-reads : goal.returns-clause-reads
returns-clause-reads c =
    let no_view : begins_with view_kinds (seen c.args.rest) ≡ false = rw c.in_default.is at (c.in_ok-rest.ensures) in
    let no_depth : begins_with depth_kinds (seen c.args.rest) ≡ false = rw c.in_default-2.is at (c.in_ok-table.ensures) in
    select_passes c.args.levels no_view no_depth (passes_as c.in_ok-query.ensures.reads)
