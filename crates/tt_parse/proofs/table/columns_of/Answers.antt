use Rattle.tt_sql.specs.marks.Tables.{options_marks}
use Rattle.tt_terminal.proofs.Exits.{exits, passes_then, within}
use Rattle.tt_terminal.proofs.Pairs.{pair_first, pair_reads}
use Rattle.tt_terminal.proofs.Steps.{passes_as, passes_both, stops_first, stops_second}
use Rattle.tt_parse.proofs.table.columns_of.Goals as goal

pub returns-in_err-rest-clause-reads : goal.returns-in_err-rest-clause-reads
returns-in_err-rest-clause-reads c = exits _ _ _ _ _ _ c.from_residual.result c.from_residual.ensures.1 (within (λ at f. stops_first (stops_first f)) _ c.in_err-rest.ensures)

pub returns-in_err-list-clause-reads : goal.returns-in_err-list-clause-reads
returns-in_err-list-clause-reads c = exits _ _ _ _ _ _ c.from_residual-in_err-list.result c.from_residual-in_err-list.ensures.1 (within (λ at f. stops_first (stops_second c.in_ok-rest.ensures (stops_first f))) _ c.in_err-list.ensures.reads)

pub returns-in_err-whole-clause-reads : goal.returns-in_err-whole-clause-reads
returns-in_err-whole-clause-reads c = exits _ _ _ _ _ _ c.from_residual-in_err-whole.result c.from_residual-in_err-whole.ensures.1 (within (λ at f. stops_first (stops_second c.in_ok-rest.ensures (stops_second c.in_ok-list.ensures.reads f))) _ c.in_err-whole.ensures.reads)

pub returns-in_err-columns-clause-reads : goal.returns-in_err-columns-clause-reads
returns-in_err-columns-clause-reads c = exits _ _ _ _ _ _ c.from_residual-in_err-columns.result c.from_residual-in_err-columns.ensures.1 (within (λ at f. stops_second (passes_both c.in_ok-rest.ensures (passes_then c.in_ok-list.ensures.reads c.in_ok-whole.ensures.reads)) (stops_first f)) _ (pair_reads _ _ _ (λ x. options_marks x.0) _ _ c.in_err-columns.ensures c.options_of.ensures))

pub returns-clause-reads : goal.returns-clause-reads
returns-clause-reads c = rw (pair_first _ _ _ c.in_ok-columns.ensures, c.in_ok-whole.ensures.kept)
    (passes_both (passes_both c.in_ok-rest.ensures (passes_then c.in_ok-list.ensures.reads c.in_ok-whole.ensures.reads)) (passes_as (pair_reads _ _ _ (λ x. options_marks x.0) _ _ c.in_ok-columns.ensures c.options_of.ensures)))

pub returns-clause-given : goal.returns-clause-given
returns-clause-given c = rw (pair_first _ _ _ c.in_ok-columns.ensures, c.in_ok-whole.ensures.kept) c.in_ok-list.ensures.given
