use Rattle.tt_terminal.proofs.Exits.{exits, within}
use Rattle.tt_terminal.proofs.Pairs.{pair_first, pair_reads}
use Rattle.tt_terminal.proofs.Steps.{passes_both, stops_first, stops_second}
use Rattle.tt_sql.specs.marks.Expressions.{quoted_marks}
use Rattle.tt_parse.proofs.change.copy_of.Goals as goal

pub returns-in_err-rest : goal.returns-in_err-rest
returns-in_err-rest c = exits _ _ _ _ _ _ c.from_residual.result c.from_residual.ensures.1 (within (λ at f. stops_first f) _ c.in_err-rest.ensures)

pub returns-in_err-rest-2 : goal.returns-in_err-rest-2
returns-in_err-rest-2 c = exits _ _ _ _ _ _ c.from_residual-in_err-rest-2.result c.from_residual-in_err-rest-2.ensures.1 (within (λ at f. stops_second c.in_ok-rest.ensures (stops_first f)) _ c.in_err-rest-2.ensures)

pub returns-in_err-name : goal.returns-in_err-name
returns-in_err-name c = exits _ _ _ _ _ _ c.from_residual-in_err-name.result c.from_residual-in_err-name.ensures.1 (within (λ at f. stops_second c.in_ok-rest.ensures (stops_second c.in_ok-rest-2.ensures (stops_first f))) _ c.in_err-name.ensures.reads)

pub returns-in_err-into : goal.returns-in_err-into
returns-in_err-into c = exits _ _ _ _ _ _ c.from_residual-in_err-into.result c.from_residual-in_err-into.ensures.1 (within (λ at f. stops_second c.in_ok-rest.ensures (stops_second c.in_ok-rest-2.ensures (stops_second c.in_ok-name.ensures.reads (stops_first f)))) _ c.in_err-into.ensures.reads)

pub returns-in_err-table : goal.returns-in_err-table
returns-in_err-table c = exits _ _ _ _ _ _ c.from_residual-in_err-table.result c.from_residual-in_err-table.ensures.1 (within (λ at f. stops_second c.in_ok-rest.ensures (stops_second c.in_ok-rest-2.ensures (stops_second c.in_ok-name.ensures.reads (stops_second c.in_ok-into.ensures.reads f)))) _ (pair_reads _ _ _ (λ x. quoted_marks x.0) _ _ c.in_err-table.ensures c.quoted_of.ensures))

pub returns : goal.returns
returns c = rw (pair_first _ _ _ c.in_ok-table.ensures, c.in_ok-into.ensures.kept)
    (passes_both c.in_ok-rest.ensures (passes_both c.in_ok-rest-2.ensures (passes_both c.in_ok-name.ensures.reads (passes_both c.in_ok-into.ensures.reads (pair_reads _ _ _ (λ x. quoted_marks x.0) _ _ c.in_ok-table.ensures c.quoted_of.ensures)))))
