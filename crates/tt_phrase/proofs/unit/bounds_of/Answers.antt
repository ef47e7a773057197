use Rattle.tt_sql.specs.marks.Expressions.{literal_marks}
use Rattle.tt_value.specs.values.RowText.{IsPrintableValue}
use Rattle.tt_terminal.proofs.Exits.{exits, within}
use Rattle.tt_terminal.proofs.Pairs.{pair_first, pair_holds, pair_reads}
use Rattle.tt_terminal.proofs.Steps.{passes_as, passes_both, stops_first, stops_second}
use Rattle.tt_phrase.proofs.unit.bounds_of.Goals as goal

pub returns-in_err-rest-clause-reads : goal.returns-in_err-rest-clause-reads
returns-in_err-rest-clause-reads c = exits _ _ _ _ _ _ c.from_residual.result c.from_residual.ensures.1 (within (λ at f. stops_first f) _ c.in_err-rest.ensures)

pub returns-in_err-literal-clause-reads : goal.returns-in_err-literal-clause-reads
returns-in_err-literal-clause-reads c = exits _ _ _ _ _ _ c.from_residual-in_err-literal.result c.from_residual-in_err-literal.ensures.1 (within (λ at f. stops_second c.in_ok-rest.ensures (stops_first f)) _ c.in_err-literal.ensures.reads)

pub returns-in_err-first-clause-reads : goal.returns-in_err-first-clause-reads
returns-in_err-first-clause-reads c = exits _ _ _ _ _ _ c.from_residual-in_err-first.result c.from_residual-in_err-first.ensures.1 (within (λ at f. stops_second c.in_ok-rest.ensures (stops_second c.in_ok-literal.ensures.reads (stops_first f))) _ c.in_err-first.ensures.reads)

pub returns-in_err-least-clause-reads : goal.returns-in_err-least-clause-reads
returns-in_err-least-clause-reads c = exits _ _ _ _ _ _ c.from_residual-in_err-least.result c.from_residual-in_err-least.ensures.1
    (within (λ at f. stops_second c.in_ok-rest.ensures (stops_second c.in_ok-literal.ensures.reads (stops_second c.in_ok-first.ensures.reads (stops_first f)))) _ (pair_reads _ _ _ (λ x. literal_marks x.0) _ _ c.in_err-least.ensures c.literal_of-2.ensures.reads))

pub returns-clause-reads : goal.returns-clause-reads
returns-clause-reads c = rw (pair_first _ _ _ c.in_ok-least.ensures, c.in_ok-first.ensures.kept)
    (passes_both c.in_ok-rest.ensures (passes_both c.in_ok-literal.ensures.reads (passes_both c.in_ok-first.ensures.reads (passes_as (pair_reads _ _ _ (λ x. literal_marks x.0) _ _ c.in_ok-least.ensures c.literal_of-2.ensures.reads)))))

pub returns-clause-least : goal.returns-clause-least
returns-clause-least c = rw (pair_first _ _ _ c.in_ok-least.ensures, c.in_ok-first.ensures.kept) c.in_ok-literal.ensures.given

pub returns-clause-greatest : goal.returns-clause-greatest
returns-clause-greatest c = pair_holds _ _ _ (λ x. IsPrintableValue x.0.value) c.in_ok-least.ensures c.literal_of-2.ensures.given
