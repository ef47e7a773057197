use Rattle.tt_sql.specs.determined.Expressions.{IsGivenExpr}
use Rattle.tt_sql.specs.marks.Expressions.{expr_marks}
use Rattle.tt_terminal.proofs.Exits.{exits, within}
use Rattle.tt_terminal.proofs.Pairs.{pair_first, pair_holds, pair_reads}
use Rattle.tt_terminal.proofs.Steps.{passes_both, passes_again, stops_first, stops_second, stops_again}
use Rattle.tt_parse.proofs.change.set_of.Goals as goal

pub returns-in_err-name-clause-reads : goal.returns-in_err-name-clause-reads
returns-in_err-name-clause-reads c = exits _ _ _ _ _ _ c.from_residual.result c.from_residual.ensures.1 (within (λ at f. stops_first f) _ c.in_err-name.ensures)

pub returns-in_err-target-clause-reads : goal.returns-in_err-target-clause-reads
returns-in_err-target-clause-reads c = exits _ _ _ _ _ _ c.from_residual-in_err-target.result c.from_residual-in_err-target.ensures.1 (within (λ at f. stops_second c.in_ok-name.ensures (stops_first f)) _ c.in_err-target.ensures.reads)

pub returns-in_err-column-clause-reads : goal.returns-in_err-column-clause-reads
returns-in_err-column-clause-reads c = exits _ _ _ _ _ _ c.from_residual-in_err-column.result c.from_residual-in_err-column.ensures.1
    (within (λ at f. stops_second c.in_ok-name.ensures (stops_second c.in_ok-target.ensures.reads (stops_again f))) _ (pair_reads _ _ _ (λ x. expr_marks x.0) _ _ c.in_err-column.ensures c.expr_of.ensures.reads))

pub returns-clause-reads : goal.returns-clause-reads
returns-clause-reads c = rw (pair_first _ _ _ c.in_ok-column.ensures, c.in_ok-target.ensures.kept)
    (passes_both c.in_ok-name.ensures (passes_both c.in_ok-target.ensures.reads (passes_again (pair_reads _ _ _ (λ x. expr_marks x.0) _ _ c.in_ok-column.ensures c.expr_of.ensures.reads))))

pub returns-clause-given : goal.returns-clause-given
returns-clause-given c = pair_holds _ _ _ (λ x. IsGivenExpr x.0) c.in_ok-column.ensures c.expr_of.ensures.given
