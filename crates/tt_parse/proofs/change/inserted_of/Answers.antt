use Rattle.tt_terminal.proofs.Exits.{exits, within}
use Rattle.tt_terminal.proofs.Pairs.{pair_first, pair_holds, pair_reads}
use Rattle.tt_terminal.proofs.Steps.{passes_both, stops_first, stops_second}
use Rattle.tt_sql.specs.marks.Changes.{insert_source_marks}
use Rattle.tt_sql.specs.determined.Statements.{IsGivenInsertSource}
use Rattle.tt_parse.proofs.change.inserted_of.Goals as goal

pub returns-in_err-names-clause-reads : goal.returns-in_err-names-clause-reads
returns-in_err-names-clause-reads c = exits _ _ _ _ _ _ c.from_residual.result c.from_residual.ensures.1 (within (λ at f. stops_first f) _ c.in_err-names.ensures.reads)

pub returns-in_err-columns-clause-reads : goal.returns-in_err-columns-clause-reads
returns-in_err-columns-clause-reads c = exits _ _ _ _ _ _ c.from_residual-in_err-columns.result c.from_residual-in_err-columns.ensures.1 (within (λ at f. stops_second c.in_ok-names.ensures.reads f) _ (pair_reads _ _ _ (λ x. insert_source_marks x.0) _ _ c.in_err-columns.ensures c.insert_source_of.ensures.reads))

pub returns-clause-reads : goal.returns-clause-reads
returns-clause-reads c = rw (pair_first _ _ _ c.in_ok-columns.ensures) (passes_both c.in_ok-names.ensures.reads (pair_reads _ _ _ (λ x. insert_source_marks x.0) _ _ c.in_ok-columns.ensures c.insert_source_of.ensures.reads))

pub returns-clause-columns : goal.returns-clause-columns
returns-clause-columns c = rw (pair_first _ _ _ c.in_ok-columns.ensures) c.in_ok-names.ensures.given

pub returns-clause-source : goal.returns-clause-source
returns-clause-source c = pair_holds _ _ _ (λ x. IsGivenInsertSource x.0) c.in_ok-columns.ensures c.insert_source_of.ensures.given
