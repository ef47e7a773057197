use Rattle.tt_terminal.proofs.Exits.{exits, within}
use Rattle.tt_terminal.proofs.Pairs.{pair_first, pair_holds, pair_reads}
use Rattle.tt_terminal.proofs.Steps.{passes_both, stops_first, stops_second}
use Rattle.tt_sql.specs.determined.Expressions.{IsGivenPredicate}
use Rattle.tt_sql.specs.marks.Expressions.{maybe_marks, predicate_marks}
use Rattle.tt_sql.specs.trees.Lists.{WhenThere}
use Rattle.tt_parse.proofs.change.changes_of.Goals as goal

pub returns-in_err-rest-clause-reads : goal.returns-in_err-rest-clause-reads
returns-in_err-rest-clause-reads c = exits _ _ _ _ _ _ c.from_residual.result c.from_residual.ensures.1 (within (λ at f. stops_first f) _ c.in_err-rest.ensures)

pub returns-in_err-list-clause-reads : goal.returns-in_err-list-clause-reads
returns-in_err-list-clause-reads c = exits _ _ _ _ _ _ c.from_residual-in_err-list.result c.from_residual-in_err-list.ensures.1 (within (λ at f. stops_second c.in_ok-rest.ensures (stops_first f)) _ c.in_err-list.ensures.reads)

pub returns-in_err-sets-clause-reads : goal.returns-in_err-sets-clause-reads
returns-in_err-sets-clause-reads c = exits _ _ _ _ _ _ c.from_residual-in_err-sets.result c.from_residual-in_err-sets.ensures.1 (within (λ at f. stops_second c.in_ok-rest.ensures (stops_second c.in_ok-list.ensures.reads f)) _ (pair_reads _ _ _ (λ x. maybe_marks predicate_marks x.0) _ _ c.in_err-sets.ensures c.filter_of.ensures.reads))

pub returns-clause-reads : goal.returns-clause-reads
returns-clause-reads c = rw (pair_first _ _ _ c.in_ok-sets.ensures) (passes_both c.in_ok-rest.ensures (passes_both c.in_ok-list.ensures.reads (pair_reads _ _ _ (λ x. maybe_marks predicate_marks x.0) _ _ c.in_ok-sets.ensures c.filter_of.ensures.reads)))

pub returns-clause-sets : goal.returns-clause-sets
returns-clause-sets c = rw (pair_first _ _ _ c.in_ok-sets.ensures) c.in_ok-list.ensures.given

pub returns-clause-filter : goal.returns-clause-filter
returns-clause-filter c = pair_holds _ _ _ (λ x. WhenThere IsGivenPredicate x.0) c.in_ok-sets.ensures c.filter_of.ensures.given
